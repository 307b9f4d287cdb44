use Rattle.std.proofs.Common.{sym, arith}
use Rattle.books.specs.Reads.{allowed}
use Rattle.books.proofs.Asked.{allowed_by}
use Rattle.books.proofs.table.TableBookBook.allows.Goals as goal

pub returns : goal.returns
unfolding allowed
returns c = let e = c.in-Some.ensures in grind (arith, e)

pub returns-in_default : goal.returns-in_default
returns-in_default c = sym (allowed_by _ _ _ c.in_default.ensures c.args.left c.args.right)
