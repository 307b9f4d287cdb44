-- A catalogue that nothing keeps from being closed.
use Rattle.std.proofs.Common.{◌≡◌, ◌≤◌, false, eqb, length, None, ◌∙◌}
use Rattle.std.proofs.lemmas.Bool.{cond-false, or_from, ne_eqb, le-ltb}
use Rattle.network.specs.Network.{no_fields}
use Rattle.propagation.specs.Refusals.{any}
use Rattle.catalogue.specs.Content.{Content, rule_count, closing_refusal}

module _ (c : Content) (some : length c.sets.entered ≡ 0 → ⊥) (few : length c.sets.entered ≤ 16)
    (filled : any (λ s. eqb s.word 0) c.sets.entered ≡ false) (few-rules : rule_count c ≤ 128)
    (tables : any (λ e. no_fields (length c.sets.entered) e.left e.right) c.ends.entered ≡ false)
    (formulas : any (λ f. no_fields (length c.sets.entered) f.left f.right) c.formulas.entered ≡ false) where
  pub closes : closing_refusal c ≡ None
  closes =
      cond-false _ _ _ (or_from _ _ (ne_eqb _ _ some) (le-ltb 16 _ few))
      ∙ cond-false _ _ _ filled
      ∙ cond-false _ _ _ (le-ltb 128 _ few-rules)
      ∙ cond-false _ _ _ (or_from _ _ tables formulas)
