use Rattle.std.proofs.Common.{refl}
use Rattle.agenda.specs.Numbered.{numbers}
use Rattle.agenda.proofs.numbers.NumberSet.contains.Goals as goal

pub returns : goal.returns
unfolding numbers
returns c = refl
