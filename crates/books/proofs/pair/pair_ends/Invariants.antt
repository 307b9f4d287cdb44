use Rattle.std.proofs.Common.{◌≡◌, ◌+◌, ◌-◌}
use Rattle.books.specs.Pairs.{pair_at, pair_from, triangle}
use Rattle.books.proofs.pair.pair_ends.Given as goal

abbrev pub invariant-loop-left : goal.invariant-loop-left
invariant-loop-left l =
    (pair_at l.fields l.rule ≡ pair_from l.left (l.fields - l.left) l.rest)
    × (l.rest + triangle l.fields ≡ l.rule + triangle (l.fields - l.left))
