use Rattle.std.proofs.Common.{refl}
use Rattle.draft.proofs.Drafts.{answers}
use Rattle.draft.proofs.draft.Draft.settle.Goals as goal

pub returns : goal.returns
returns g c = record { meaning = c.settle.ensures.meaning; waiting = c.settle.ensures.waiting; answer = answers _ _ _ _ _ _ c.in-Ok.is refl _ c.settle.ensures.step }
