use Rattle.std.proofs.Common.{arith}
use Rattle.agenda.proofs.NumberSets.{numbers_insert}
use Rattle.agenda.proofs.numbers.NumberSet.insert.Goals as goal

pub returns : goal.returns
returns c = numbers_insert c.args.self.now.words c.args.number.value (omega arith)
