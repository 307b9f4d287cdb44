use Rattle.std.proofs.Common.{arith}
use Rattle.std.proofs.lemmas.Grind.{common_steps}
use Rattle.books.specs.Reads.{allowed}
use Rattle.books.proofs.joined.JoinedBook.allows.Goals as goal

pub returns-in-Some-First : goal.returns-in-Some-First
unfolding allowed
returns-in-Some-First g c = grind (arith, common_steps)

pub returns-in-Some-Second : goal.returns-in-Some-Second
unfolding allowed
returns-in-Some-Second g c = grind (arith, common_steps)

pub returns-in-None : goal.returns-in-None
unfolding allowed
returns-in-None g c = grind (arith, common_steps)
