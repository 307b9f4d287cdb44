use Rattle.std.proofs.Common.{◌≡◌}
use Rattle.catalogue.specs.Lent.{places, extended}
use Rattle.catalogue.proofs.lent.LentVec.extend.Given as goal

abbrev pub invariant-loop-i : goal.invariant-loop-i
invariant-loop-i g l = places l.self ≡ extended (places l.initial.self) l._i l.value
