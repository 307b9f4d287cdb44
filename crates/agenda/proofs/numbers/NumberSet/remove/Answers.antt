use Rattle.std.proofs.Common.{arith}
use Rattle.agenda.proofs.NumberSets.{numbers_remove}
use Rattle.agenda.proofs.numbers.NumberSet.remove.Goals as goal

pub returns : goal.returns
returns c = numbers_remove c.args.self.now.words c.args.number.value (omega arith)
