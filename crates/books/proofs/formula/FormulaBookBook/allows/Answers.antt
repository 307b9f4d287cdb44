use Rattle.std.proofs.Common.{arith}
use Rattle.std.proofs.lemmas.Grind.{common_steps}
use Rattle.books.specs.Reads.{allowed}
use Rattle.books.proofs.formula.FormulaBookBook.allows.Goals as goal

pub returns : goal.returns
unfolding allowed
returns c = grind (arith, common_steps)
