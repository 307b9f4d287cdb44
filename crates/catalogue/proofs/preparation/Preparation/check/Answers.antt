use Rattle.std.proofs.Common.{◌++◌, ap, ◌∙◌}
use Rattle.network.specs.Network.{words}
use Rattle.books.specs.Table.{table_rules}
use Rattle.books.specs.Formula.{formula_rules}
use Rattle.propagation.specs.Refusals.{answer, opening_refusal}
use Rattle.catalogue.specs.View.{content}
use Rattle.catalogue.proofs.Opening.{rules_of, same_refusal}
use Rattle.catalogue.proofs.preparation.Preparation.check.Goals as goal

pub returns : goal.returns
returns c =
    let k = content c.args.self.now in
    let book = c.book.result in
    let sets = words c.as_slice.result.now in
    c.check_opening.ensures.answer
    ∙ ap (λ e. answer (opening_refusal (table_rules e (words book.first.rows.now) ++ formula_rules book.second.rules.now) sets)) c.book.ensures.ends
    ∙ ap (λ r. answer (opening_refusal (table_rules k.ends.entered (words r) ++ formula_rules book.second.rules.now) sets)) c.book.ensures.rows
    ∙ ap (λ f. answer (opening_refusal (table_rules k.ends.entered (words k.rows.entered) ++ formula_rules f) sets)) c.book.ensures.formulas
    ∙ ap (λ s. answer (opening_refusal (rules_of k) (words s))) c.as_slice.ensures
    ∙ ap answer (same_refusal k)
