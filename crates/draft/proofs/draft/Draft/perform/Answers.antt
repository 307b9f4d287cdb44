use Rattle.draft.proofs.Drafts.{answers_keep_the_law}
use Rattle.draft.proofs.draft.Draft.perform.Goals as goal

pub returns-clause-law : goal.returns-clause-law
returns-clause-law g c = answers_keep_the_law _ _ _ _ _ c.make.ensures.answer
