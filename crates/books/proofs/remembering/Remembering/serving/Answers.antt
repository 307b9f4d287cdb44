use Rattle.std.proofs.Common.{⊎_elim, arith}
use Rattle.books.proofs.Asked.{allowed_range}
use Rattle.books.proofs.remembering.Remembering.serving.Goals as goal

-- no residue is kept for such a rule or option, and nothing is allowed there
pub returns-then-arc-ge-RULES : goal.returns-then-arc-ge-RULES
returns-then-arc-ge-RULES g c b e t u =
    let i = allowed_range (g.B.Book.meaning c.args.self.now.book) c.args.arc.side c.args.arc.rule c.args.option b u in
    ⊎_elim (λ h. omega arith) (λ h. omega arith) c.then-arc-ge-RULES.either
