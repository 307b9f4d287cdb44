use Rattle.agenda.proofs.NumberSets.{numbers_new}
use Rattle.agenda.proofs.numbers.NumberSet.new.Goals as goal

pub returns : goal.returns
returns c = numbers_new 8
