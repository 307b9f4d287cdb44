use Rattle.std.proofs.Common.{rules}
use Rattle.books.specs.Reads.{allowed_on}
use Rattle.books.proofs.Found.{found_first}
use Rattle.books.proofs.book.Book.partner.Goals as goal

pub returns-clause-found : goal.returns-clause-found
returns-clause-found g c = found_first (allowed_on (g.Self.Book.meaning c.args.self.now) c.args.arc.side c.args.arc.rule c.args.option) c.args.set.word c.find.result _ _ c.find.ensures (λ b p. search rules) (λ b p. search rules)
