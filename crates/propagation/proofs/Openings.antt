-- An opening is accepted exactly if no refusal fits it, and the search for an empty set.
use Rattle.std.proofs.Common.{◌≡◌, ℕ, ◌^◌, ◌<◌, ◌≤◌, Bool, true, false, ◌||◌, eqb, ltb, leb, MatchBool, List, length, get_or, Some, None, sym, ap, ◌∙◌, subst, inl, inr, arith, lit<}
use Rattle.std.proofs.lemmas.Bool.{or_from, or_parts, ne_eqb, eqb-false, le-ltb, ltb-false, lt-leb, leb-false, cond-true, cond-false, cases_lt, cases_Bool, true≢false}
use Rattle.std.proofs.lemmas.List.Folds.{list_any_at}
use Rattle.std.specs.List.{AllWithin, HoldsAt}
use Rattle.faults.specs.declared.EngineFault.{EngineFault}
use Rattle.faults.specs.declared.EngineFault.TheVariants.{FieldCount, EmptySet, RuleCount, UnfitEnds}
use Rattle.network.specs.Network.{Rule, no_rule, words, option_limit, field_limit, rule_limit}
use Rattle.network.specs.declared.options.OptionSet.{OptionSet}
use Rattle.network.proofs.Words.{length_words, word_of}
use Rattle.std.proofs.lemmas.List.{get_or_past}
use Rattle.propagation.specs.Opening.{Accepted}
use Rattle.propagation.specs.Refusals.{any, empty, unfit, opening_refusal}
use Rattle.propagation.specs.Undo.{Fit}
use Rattle.propagation.proofs.Searches.{none_passes, each_fails}

module _ (rules : List Rule) (sets : List ℕ) (h : Accepted rules sets) where
  -- no set is empty, and no rule is unfit
  pub none_empty : any empty sets ≡ false
  none_empty = none_passes empty 0 sets (λ x lt. ne_eqb _ 0 (λ e. omega (arith, h.filled x lt)))

  pub none_unfit : any (unfit (length sets)) rules ≡ false
  none_unfit = none_passes (unfit (length sets)) no_rule rules (λ r lt.
      or_from _ _ (lt-leb _ _ (h.left_is_field r lt)) (or_from _ _ (lt-leb _ _ (h.right_is_field r lt)) (ne_eqb _ _ (h.ends_differ r lt))))

module _ (rules : List Rule) (sets : List ℕ) where
  -- the refusals, one after the other
  pub refused_count : (eqb (length sets) 0 || ltb field_limit (length sets)) ≡ true → opening_refusal rules sets ≡ Some FieldCount
  refused_count e = cond-true _ _ _ e

  pub refused_empty : (eqb (length sets) 0 || ltb field_limit (length sets)) ≡ false → any empty sets ≡ true → opening_refusal rules sets ≡ Some EmptySet
  refused_empty e f = cond-false _ _ _ e ∙ cond-true _ _ _ f

  pub refused_rules : (eqb (length sets) 0 || ltb field_limit (length sets)) ≡ false → any empty sets ≡ false → ltb rule_limit (length rules) ≡ true → opening_refusal rules sets ≡ Some RuleCount
  refused_rules e f g = cond-false _ _ _ e ∙ cond-false _ _ _ f ∙ cond-true _ _ _ g

  pub refused_ends : (eqb (length sets) 0 || ltb field_limit (length sets)) ≡ false → any empty sets ≡ false → ltb rule_limit (length rules) ≡ false → any (unfit (length sets)) rules ≡ true → opening_refusal rules sets ≡ Some UnfitEnds
  refused_ends e f g h = cond-false _ _ _ e ∙ cond-false _ _ _ f ∙ cond-false _ _ _ g ∙ cond-true _ _ _ h

  pub not_refused : (eqb (length sets) 0 || ltb field_limit (length sets)) ≡ false → any empty sets ≡ false → ltb rule_limit (length rules) ≡ false → any (unfit (length sets)) rules ≡ false → opening_refusal rules sets ≡ None
  not_refused e f g h = cond-false _ _ _ e ∙ cond-false _ _ _ f ∙ cond-false _ _ _ g ∙ cond-false _ _ _ h

  -- what is accepted is not refused
  pub accepted_passes : Accepted rules sets → opening_refusal rules sets ≡ None
  accepted_passes h =
      not_refused
      (or_from _ _ (ne_eqb (length sets) 0 (λ e. omega (arith, h.some))) (le-ltb field_limit (length sets) h.few))
      (none_empty rules sets h)
      (le-ltb rule_limit (length rules) h.rules_few)
      (none_unfit rules sets h)

  pub refused_not : (why : EngineFault) → opening_refusal rules sets ≡ Some why → Accepted rules sets → ⊥
  refused_not why e h =
      let f = accepted_passes h in let z : ◌≡◌ {A = ℕ} 0 1 = cc in omega arith

  -- what is not refused is accepted
  accepted_by : Fit sets → (eqb (length sets) 0 || ltb field_limit (length sets)) ≡ false → any empty sets ≡ false → ltb rule_limit (length rules) ≡ false → any (unfit (length sets)) rules ≡ false → Accepted rules sets
  accepted_by fit e f g h =
      let count = or_parts (eqb (length sets) 0) (ltb field_limit (length sets)) e in
      let ends = λ (r : ℕ) (lt : r < length rules). or_parts (leb (length sets) (get_or rules r no_rule).left) _ (each_fails (unfit (length sets)) no_rule rules h r lt) in
      let rest = λ (r : ℕ) (lt : r < length rules). or_parts (leb (length sets) (get_or rules r no_rule).right) _ (ends r lt).1 in
      record {
        some = let ne = eqb-false (length sets) 0 count.0 in omega arith;
        few = ltb-false field_limit (length sets) count.1;
        fit = fit;
        filled = λ x lt. let ne = eqb-false (get_or sets x 0) 0 (each_fails empty 0 sets f x lt) in omega arith;
        rules_few = ltb-false rule_limit (length rules) g;
        left_is_field = λ r lt. leb-false _ _ (ends r lt).0;
        right_is_field = λ r lt. leb-false _ _ (rest r lt).0;
        ends_differ = λ r lt. eqb-false _ _ (rest r lt).1;
      }

  -- an opening of fitting sets is accepted if no refusal fits it
  pub passes_accepted : Fit sets → opening_refusal rules sets ≡ None → Accepted rules sets
  passes_accepted fit none =
      elim (cases_Bool (eqb (length sets) 0 || ltb field_limit (length sets))) [
        | inl e ↦ absurd (differ (refused_count e))
        | inr e ↦ elim (cases_Bool (any empty sets)) [
          | inl f ↦ absurd (differ (refused_empty e f))
          | inr f ↦ elim (cases_Bool (ltb rule_limit (length rules))) [
            | inl g ↦ absurd (differ (refused_rules e f g))
            | inr g ↦ elim (cases_Bool (any (unfit (length sets)) rules)) [
              | inl h ↦ absurd (differ (refused_ends e f g h))
              | inr h ↦ accepted_by fit e f g h
            ]
          ]
        ]
      ]
    where
      differ : {why : EngineFault} → opening_refusal rules sets ≡ Some why → ⊥
      differ e = let z : ◌≡◌ {A = ℕ} 0 1 = cc in omega arith

-- where there is no field, there is no option
pub past_fits : (sets : List ℕ) (x : ℕ) → length sets ≤ x → get_or sets x 0 < 2 ^ option_limit
past_fits sets x past = subst (λ w. w < 2 ^ option_limit) (sym (get_or_past sets x 0 past)) (lit< tt)

-- a search for an empty set; where all were looked at, they fit
pub search_empty : (found : Bool) (sets : List OptionSet) →
    MatchBool found ((k : ℕ) × (k < length sets) × HoldsAt (λ s. true ≡ empty s.word) sets k) (AllWithin (λ s. (s.word < 2 ^ option_limit) × (false ≡ empty s.word)) sets 0 (length sets)) →
    (found ≡ any empty (words sets)) × (found ≡ false → Fit (words sets))
search_empty true sets h =
    let n = length_words sets in
    (sym (list_any_at empty (words sets) h.0 0 (omega (arith, h.1)) (ap empty (word_of sets h.0 (record { word = 0 }) h.1) ∙ sym (h.2 _))), λ e. absurd (true≢false e))
search_empty false sets h =
    let n = length_words sets in
    let none : OptionSet = record { word = 0 } in
    let within = λ (i : ℕ) (lt : i < length (words sets)). let e : i < length sets = omega arith in e in
    let word = λ (i : ℕ) (lt : i < length (words sets)). word_of sets i none (within i lt) in
    let seen = λ (i : ℕ) (lt : i < length (words sets)). h i none (omega arith) (within i lt) in (
      sym (none_passes empty 0 (words sets) (λ i lt. ap empty (word i lt) ∙ sym (seen i lt).1)),
      λ e x. elim (cases_lt x (length (words sets))) [
        | inl lt ↦ omega (arith, word x lt, (seen x lt).0)
        | inr past ↦ past_fits (words sets) x past
      ],
    )
