use Rattle.books.proofs.Residues.{told_in_table}
use Rattle.books.proofs.remembering.RememberingBook.partner.Goals as goal

pub keep-requires : goal.keep-requires
keep-requires g c =
    told_in_table (g.B.Book.meaning c.args.self.now.book) c.args.arc.side c.args.arc.rule c.args.option c.args.set.word c.tell-answer.result c.tell-answer.ensures.found
