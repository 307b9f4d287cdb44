use Rattle.std.proofs.Common.{◌≡◌, ℕ, ◌+◌, ◌-◌, ◌*◌, ◌^◌, ◌≤◌, ◌⊎◌, length, None, sym, ap, ◌∙◌, inl, inr, arith}
use Rattle.std.proofs.lemmas.Bool.{cond-true, cond-false, ne_eqb, lt-ltb, cases_lt}
use Rattle.propagation.specs.Refusals.{answer}
use Rattle.catalogue.specs.Content.{outcome, row_refusal, with_row}
use Rattle.catalogue.specs.View.{content}
use Rattle.catalogue.proofs.Fronts.{replaced_at}
use Rattle.catalogue.proofs.preparation.Preparation.set_row.Goals as goal

pub returns : goal.returns
returns c =
    let k = content c.args.self.now in
    let a = c.args.option in
    let tables : c.len-tables.result ≡ length k.ends.entered = c.len-tables.ensures in
    let at : ℕ = (length k.ends.entered - 1) * 32 + a in
    let place = c.saturating_add.result in
    let far : (place ≡ at) ⊎ ((length k.rows.entered ≤ place) × (length k.rows.entered ≤ at)) =
    elim (cases_lt at (2 ^ 64 - 1)) [
      | inl low ↦ inl (omega (arith, c.saturating_add.ensures, c.saturating_mul-first.ensures))
      | inr high ↦ inr (omega (arith, c.set.ensures.bound, c.saturating_add.ensures, c.saturating_mul-first.ensures), omega (arith, c.set.ensures.bound))
    ] in
    let none : row_refusal k a ≡ None =
    cond-false _ _ _ (ne_eqb _ _ (λ e. c.if-tables-eq0.false (tables ∙ e))) ∙ cond-true _ _ _ (lt-ltb a 32 c.if-option-ge-OPTIONS.false) in
    record {
      answers = sym (ap answer none);
      after =
          ap (λ p. record { sets = k.sets; ends = k.ends; rows = p; formulas = k.formulas }) (c.set.ensures.after ∙ replaced_at k.rows place at c.args.set far)
          ∙ sym (ap (λ o. outcome o k (with_row k a c.args.set)) none);
    }
