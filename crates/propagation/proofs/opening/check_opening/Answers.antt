use Rattle.std.proofs.Common.{sym, ap, ◌∙◌}
use Rattle.std.proofs.lemmas.Bool.{true≢false}
use Rattle.network.specs.Network.{words}
use Rattle.network.proofs.Words.{length_words}
use Rattle.propagation.specs.Refusals.{any, unfit}
use Rattle.propagation.proofs.Openings.{none_empty, none_unfit}
use Rattle.propagation.proofs.opening.check_opening.Goals as goal

pub returns-then-any_empty-clause-accepted : goal.returns-then-any_empty-clause-accepted
returns-then-any_empty-clause-accepted g c =
    λ h. absurd (true≢false (c.if-any_empty.ensures.answer ∙ none_empty (g.B.Book.meaning c.args.book.now) (words c.args.sets.now) h))

pub returns-then-any_unfit-clause-accepted : goal.returns-then-any_unfit-clause-accepted
returns-then-any_unfit-clause-accepted g c =
    let rules = g.B.Book.meaning c.args.book.now in
    let fields = ap (λ n. any (unfit n) rules) (length_words c.args.sets.now) in
    λ h. absurd (true≢false (c.if-any_unfit.ensures ∙ sym fields ∙ none_unfit rules (words c.args.sets.now) h))
