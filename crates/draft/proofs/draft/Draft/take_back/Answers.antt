use Rattle.std.proofs.Common.{refl}
use Rattle.draft.proofs.Drafts.{answers}
use Rattle.draft.proofs.draft.Draft.take_back.Goals as goal

pub returns : goal.returns
returns g c = record { untouched = record { book = refl; agenda = refl }; answer = answers _ _ _ _ _ _ c.in-Ok.is refl _ (c.take_back.ensures (g.B.Book.meaning c.args.self.now.book)) }
