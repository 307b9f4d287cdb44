use Rattle.draft.specs.View.{held}
use Rattle.draft.proofs.Drafts.{answers}
use Rattle.draft.proofs.Steps.{shows}
use Rattle.draft.proofs.draft.Draft.show.Goals as goal

pub returns : goal.returns
returns g c = answers _ _ _ _ _ _ c.in-Ok.is c.in-Ok.is _ (shows (g.B.Book.meaning c.args.self.now.book) (held c.in-Ok.opened) c.args.field c.show.result c.show.ensures)
