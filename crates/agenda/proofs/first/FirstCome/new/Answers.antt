use Rattle.std.proofs.Common.{refl, arith}
use Rattle.agenda.specs.Ring.{around, apart}
use Rattle.agenda.specs.Lined.{line}
use Rattle.agenda.proofs.first.FirstCome.new.Goals as goal

pub invariant_of-result : goal.invariant_of-result
unfolding around apart
invariant_of-result c = record { within = omega arith; marked = (λ k. c.new.ensures k); once = refl }

pub returns : goal.returns
unfolding line around
returns c = refl
