use Rattle.draft.proofs.Laws.{law}
use Rattle.draft.proofs.law_holds.Goals as goal

pub returns : goal.returns
returns c = law
