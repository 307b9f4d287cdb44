use Rattle.std.proofs.Common.{◌≡◌, suc, ◌+◌, ◌-◌, ◌<◌, ◌≤◌, ap, ◌∙◌, arith}
use Rattle.books.specs.Pairs.{pair_from, triangle}
use Rattle.books.proofs.Pairing.{pair_first, pair_later}
use Rattle.books.proofs.pair.pair_ends.Goals as goal

pub returns-then-rest-later : goal.returns-then-rest-later
returns-then-rest-later c =
    let n = c.args.fields in
    let x = c.loop-left.left in
    let rest = c.loop-left.rest in
    let own : n - x ≡ suc (n - 1 - x) = omega arith in
    let few : rest < n - 1 - x = omega arith in
    let count = ap triangle own in
    let sum = c.loop-left.invariant.1 in
    (omega arith, c.loop-left.invariant.0 ∙ ap (λ more. pair_from x more rest) own ∙ pair_first x (n - 1 - x) rest few)

pub loop-left-preserved : goal.loop-left-preserved
loop-left-preserved c =
    let n = c.args.fields in
    let x = c.loop-left.left in
    let rest = c.loop-left.rest in
    let own : n - x ≡ suc (n - 1 - x) = omega arith in
    let next : n - 1 - x ≡ n - (x + 1) = omega arith in
    let many : n - 1 - x ≤ rest = omega arith in
    let count = ap triangle own in
    let after = ap triangle next in
    let sum = c.loop-left.invariant.1 in (
      c.loop-left.invariant.0 ∙ ap (λ more. pair_from x more rest) own ∙ pair_later x (n - 1 - x) rest many ∙ ap (λ more. pair_from (x + 1) more (rest - (n - 1 - x))) next,
      omega arith,
    )
