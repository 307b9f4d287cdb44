-- What revising one arc leaves, and what the end of propagation gives.
use Rattle.std.proofs.Common.{◌≡◌, ℕ, ◌<◌, ◌≤◌, true, false, T, List, [], length, get_or, Vec, sym, refl, ap, ◌∙◌, subst, inl, inr, arith}
use Rattle.std.proofs.lemmas.Bool.{cases_eq, cases_Bool, both_ways}
use Rattle.network.specs.Network.{has, Rule, Part, part, Within, rule_at, ArcConsistent, Largest, option_limit}
use Rattle.network.specs.Sides.{opposite}
use Rattle.network.specs.declared.rules.Ends.{Ends}
use Rattle.network.specs.declared.rules.Side.{Side}
use Rattle.network.specs.declared.rules.Side.TheVariants.{Left, Right}
use Rattle.network.proofs.Truth.{T_no}
use Rattle.network.proofs.Bits.{none_of_zero, some_bit}
use Rattle.agenda.specs.Waiting.{Waiting, Same, Nothing, without}
use Rattle.agenda.specs.Jobs.{arc_number}
use Rattle.network.specs.declared.rules.Arc.{Arc}
use Rattle.agenda.proofs.Waits.{waits_le}
use Rattle.propagation.specs.Strikes.{options}
use Rattle.propagation.specs.Opening.{Accepted, Emptied, Blamed}
use Rattle.propagation.specs.Arcs.{Supported, own, across, pairs, ArcAt, Revised, ArcOk, Sound, OnlyArcs, AllBelow, Listed, BetweenFields, OthersOk, OthersBut, Neighbours, Still, Elsewhere, number_of}
use Rattle.propagation.specs.Progress.{Progress, Filled, SettledOn, WipedFrom}
use Rattle.propagation.specs.Turns.{work, Ready, Wiped}
use Rattle.propagation.specs.declared.arcs.PlacedArc.{PlacedArc}
use Rattle.propagation.specs.declared.record.Strike.{Strike}
use Rattle.propagation.specs.declared.record.WipedOut.{WipedOut}
use Rattle.propagation.proofs.Strikes.{keeps, no_larger}
use Rattle.propagation.proofs.Steps.{progress_shrinks, progress_sound, progress_length, support_stays}
use Rattle.propagation.proofs.Puts.{taken_off, taken_same}

-- an arc has one number
same_arc : (r q : ℕ) (s t : Side) → number_of r s ≡ number_of q t → (r ≡ q) × (s ≡ t)
same_arc r q Left Left e = (omega arith, refl)
same_arc r q Left Right e = absurd (omega arith)
same_arc r q Right Left e = absurd (omega arith)
same_arc r q Right Right e = (omega arith, refl)

-- the other arc of a rule, seen from the first
back_own : (rules : List Rule) (side : Side) (r : ℕ) → own rules (opposite side) r ≡ across rules side r
back_own rules Left r = refl
back_own rules Right r = refl

back_across : (rules : List Rule) (side : Side) (r : ℕ) → across rules (opposite side) r ≡ own rules side r
back_across rules Left r = refl
back_across rules Right r = refl

back_pairs : (rules : List Rule) (side : Side) (r a b : ℕ) → pairs rules (opposite side) r b a ≡ pairs rules side r a b
back_pairs rules Left r a b = refl
back_pairs rules Right r a b = refl

-- the two arcs of one rule
either_side : (s t : Side) → (s ≡ t → ⊥) → s ≡ opposite t
either_side Left Left ne = absurd (ne refl)
either_side Left Right ne = refl
either_side Right Left ne = refl
either_side Right Right ne = absurd (ne refl)

module _ (rules : List Rule) (s s' : List ℕ) (arc : Arc) (x : ℕ) (field : x ≡ own rules arc.side arc.rule)
    (shrunk : Within (part s') (part s)) (stays : (a : ℕ) → Supported rules (part s) arc.side arc.rule a → T (part s x a) → T (part s' x a)) where
  -- the arc back along the same rule: what was struck was nobody's partner there
  back_ok : ArcOk rules (part s) (opposite arc.side) arc.rule → ArcOk rules (part s') (opposite arc.side) arc.rule
  back_ok ok b t =
      let before = shrunk _ _ t in
      let partner = ok b before in
      let a = partner.0 in
      let to_own = back_across rules arc.side arc.rule ∙ sym field in
      let here : T (part s x a) = subst (λ z. T (part s z a)) to_own partner.1.1 in
      let across_there : T (part s (across rules arc.side arc.rule) b) = subst (λ z. T (part s z b)) (back_own rules arc.side arc.rule) before in
      let pair : T (pairs rules arc.side arc.rule a b) = subst T (back_pairs rules arc.side arc.rule a b) partner.1.0 in
      let kept : T (part s' x a) = stays a (b, (pair, across_there)) here in
      (a, (partner.1.0, subst (λ z. T (part s' z a)) (sym to_own) kept))

module _ (rules : List Rule) (s s' : List ℕ) (arc : PlacedArc) (revised : Revised rules s s' arc) where
  the_arc : (r : ℕ) (side : Side) → number_of r side ≡ number_of arc.arc.rule arc.arc.side → ArcOk rules (part s') side r
  the_arc r side e =
      let same = same_arc r arc.arc.rule side arc.arc.side e in
      subst (λ q. ArcOk rules (part s') side q) (sym same.0) (subst (λ t. ArcOk rules (part s') t arc.arc.rule) (sym same.1) revised.consistent)

  -- no option was struck
  pub others_still : (w : Waiting) → s' ≡ s → OthersBut rules (part s) w (arc.arc) → OthersOk rules (part s') w
  others_still w e others r side lt off =
      elim (cases_eq (number_of r side) (number_of arc.arc.rule arc.arc.side)) [
        | inl same ↦ the_arc r side same
        | inr ne ↦ subst (λ z. ArcOk rules (part z) side r) (sym e) (others r side lt ne off)
      ]

  module _ (field : arc.own ≡ own rules arc.arc.side arc.arc.rule) (shrunk : Within (part s') (part s)) where
    -- some options were struck, and the other arcs across from which the field lies were put
    pub others_put : (ends : List Ends) → Listed rules ends → (w w' : Waiting) → Still w w' → Neighbours ends (length rules) arc.own arc.arc.rule w' → OthersBut rules (part s) w (arc.arc) → OthersOk rules (part s') w'
    others_put ends listed w w' more every others r side lt off =
        elim (cases_eq (number_of r side) (number_of arc.arc.rule arc.arc.side)) [
          | inl same ↦ the_arc r side same
          | inr ne ↦
              let before : w (number_of r side) ≡ false = elim (cases_Bool (w (number_of r side))) [ inl on ↦ absurd (both_ways _ off (more _ on)) | inr was ↦ was ] in
              elim (cases_eq r arc.arc.rule) [
                | inl same ↦
                    let turned : side ≡ opposite arc.arc.side = either_side side arc.arc.side (λ e. ne (ap (λ q. number_of q side) same ∙ ap (number_of arc.arc.rule) e)) in
                    let ok : ArcOk rules (part s) (opposite arc.arc.side) arc.arc.rule = subst (λ t. ArcOk rules (part s) t arc.arc.rule) turned (subst (λ q. ArcOk rules (part s) side q) same (others r side lt ne before)) in
                    subst (λ q. ArcOk rules (part s') side q) (sym same) (subst (λ t. ArcOk rules (part s') t arc.arc.rule) (sym turned) (back_ok rules s s' arc.arc arc.own field shrunk revised.stays ok))
                | inr other ↦
                    let far : across rules side r ≡ arc.own → ⊥ = λ e. both_ways _ off (every r side lt other (listed.across r side lt ∙ e)) in
                    λ a t. support_stays rules s s' side r a (revised.elsewhere _ far) (others r side lt ne before a (shrunk _ _ t))
              ]
        ]

pub filled_after : (s s' : List ℕ) (x : ℕ) → length s' ≡ length s → Elsewhere s s' x → (get_or s' x 0 ≡ 0 → ⊥) → Filled s → Filled s'
filled_after s s' x len elsewhere left filled z lt =
    elim (cases_eq z x) [
      | inl e ↦ elim (cases_eq (get_or s' x 0) 0) [ inl out ↦ absurd (left out) | inr ne ↦ omega (arith, ap (λ y. get_or s' y 0) e) ]
      | inr ne ↦ omega (arith, elsewhere z ne, filled z (omega arith))
    ]

pub work_less : (s s' : List ℕ) (w w' : Waiting) → options s' < options s → work s' w' ≤ work s w
work_less s s' w w' h = omega (arith, waits_le w' 256)

-- what an accepted opening gives
module _ (rules : List Rule) (sets : List ℕ) (h : Accepted rules sets) where
  own_is : (r : ℕ) (side : Side) → r < length rules → own rules side r < length sets
  own_is r Left lt = h.left_is_field r lt
  own_is r Right lt = h.right_is_field r lt

  across_is : (r : ℕ) (side : Side) → r < length rules → across rules side r < length sets
  across_is r Left lt = h.right_is_field r lt
  across_is r Right lt = h.left_is_field r lt

  differ : (r : ℕ) (side : Side) → r < length rules → across rules side r ≡ own rules side r → ⊥
  differ r Left lt e = h.ends_differ r lt (sym e)
  differ r Right lt e = h.ends_differ r lt e

  pub sound_from : Sound rules sets
  sound_from = record { few = h.few; fit = h.fit; rules_few = h.rules_few; own_field = own_is; across_field = across_is; apart = differ }

-- the ends of the rules lie among the fields
pub listed_between : (rules : List Rule) (sets : List ℕ) (ends : List Ends) → Sound rules sets → Listed rules ends → BetweenFields ends (length sets)
listed_between rules sets ends sound listed = record {
  few = omega (arith, listed.count, sound.rules_few);
  fields = λ r side lt. let within : r < length rules = omega (arith, listed.count) in omega (arith, listed.own r side within, sound.own_field r side within);
}

-- every arc is consistent
all_consistent : (rules : List Rule) (p : Part) → ((r : ℕ) (side : Side) → r < length rules → ArcOk rules p side r) → ArcConsistent rules p
all_consistent rules p ok = record { on_left = λ r a lt t. ok r Left lt a t; on_right = λ r b lt t. ok r Right lt b t }

module _ {Z : Type 0} (rules : List Rule) (s s' : List ℕ) (v v' : Vec Strike Z) (progress : Progress rules s v s' v') where
  largest_left : ArcConsistent rules (part s') → Largest rules (part s) (part s')
  largest_left ac = record {
    all = λ x a t. (part s', (progress_shrinks rules s s' v v' progress, (ac, t)));
    only = λ x a h. keeps rules progress.found s s' (progress.struck []) h.0 h.1.0 h.1.1.0 x a h.1.1.1;
  }

  emptied : (x : ℕ) → get_or s' x 0 ≡ 0 → Emptied rules (part s) x
  emptied x e a (p, (w, (ac, t))) =
      T_no (has 0 a) (none_of_zero a) (subst (λ u. T (has u a)) e (keeps rules progress.found s s' (progress.struck []) p w ac x a t))

-- a field that is empty in the largest part: its options have no partner there under any of its rules
blamed : (rules : List Rule) (p : Part) (side : Side) (r x a : ℕ) → r < length rules → x ≡ own rules side r → T (p x a) → Emptied rules p x → Blamed rules p x r
blamed rules p Left r x a lt e t empty =
    let alone = λ (q : Part) (largest : Largest rules p q) (b : ℕ) (allows : T ((rule_at rules r).allows a b)) (kept : T (q (rule_at rules r).right b)).
    let inside = largest.all _ _ kept in
    let partner = inside.1.1.0.on_right r b lt inside.1.1.1 in
    empty partner.0 (inside.0, (inside.1.0, (inside.1.1.0, subst (λ z. T (inside.0 z partner.0)) (sym e) partner.1.1))) in
    (Left, (a, (lt, (t, λ q largest. (sym e, alone q largest)))))
blamed rules p Right r x b lt e t empty =
    let alone = λ (q : Part) (largest : Largest rules p q) (a : ℕ) (allows : T ((rule_at rules r).allows a b)) (kept : T (q (rule_at rules r).left a)).
    let inside = largest.all _ _ kept in
    let partner = inside.1.1.0.on_left r a lt inside.1.1.1 in
    empty partner.0 (inside.0, (inside.1.0, (inside.1.1.0, subst (λ z. T (inside.0 z partner.0)) (sym e) partner.1.1))) in
    (Right, (b, (lt, (t, λ q largest. (sym e, alone q largest)))))

module _ {Z : Type 0} (rules : List Rule) (s s' : List ℕ) (v v' : Vec Strike Z) (progress : Progress rules s v s' v') (sound : Sound rules s) where
  pub wiped_from : (w : WipedOut) → Filled s → Wiped rules s' w → WipedFrom rules s w
  wiped_from w filled wiped =
      let within : w.field < length s = omega (arith, wiped.field, sound.own_field w.rule wiped.side wiped.rule) in
      let option = some_bit option_limit (get_or s w.field 0) (sound.fit w.field) (filled w.field within) in
      let empty = emptied rules s s' v v' progress w.field wiped.empty in
      record {
        field = within;
        emptied = empty;
        blamed = blamed rules (part s) wiped.side w.rule w.field option.0 wiped.rule wiped.field option.1 empty;
      }

  pub settled_on : (w : Waiting) → Filled s' → OthersOk rules (part s') w → Nothing w → SettledOn rules s s'
  settled_on w filled others nothing =
      record { largest = largest_left rules s s' v v' progress (all_consistent rules (part s') (λ r side lt. others r side lt (nothing _))); filled = filled }

  -- an arc was taken
  pub ready_from : (w w' : Waiting) (arc : Arc) → Filled s' → OnlyArcs rules w → OthersOk rules (part s') w → w (arc_number arc) ≡ true → Same (without w (arc_number arc)) w' → Ready rules s' w' arc
  ready_from w w' arc filled only others on taken = record {
    sound = progress_sound rules s s' v v' progress sound;
    filled = filled;
    rule = omega (arith, only (arc_number arc) on);
    only = λ k h. elim (cases_eq k (arc_number arc)) [
      | inl e ↦ absurd (both_ways _ (ap w' e ∙ taken_off w w' (arc_number arc) taken) h)
      | inr ne ↦ only k (sym (taken_same w w' (arc_number arc) taken k ne) ∙ h)
    ];
    others = λ r side lt ne h. others r side lt (sym (taken_same w w' (arc_number arc) taken _ ne) ∙ h);
  }

-- where every arc waits, none is left to be consistent
pub all_wait : (rules : List Rule) (p : Part) (w : Waiting) → AllBelow (length rules) w → OthersOk rules p w
all_wait rules p w every r side lt off = absurd (both_ways _ off (every r side lt))

-- what stands after a done propagation is accepted again
pub accepted_after : {Z : Type 0} (rules : List Rule) (s s' : List ℕ) (v v' : Vec Strike Z) → Progress rules s v s' v' → Filled s' → Accepted rules s → Accepted rules s'
accepted_after rules s s' v v' p filled h =
    let e : length s' ≡ length s = progress_length rules s s' v v' p in
    record {
      some = omega (arith, h.some);
      few = omega (arith, h.few);
      fit = λ x. omega (arith, no_larger rules [] p.found s s' (p.struck []) x, h.fit x);
      filled = filled;
      rules_few = h.rules_few;
      left_is_field = λ r lt. omega (arith, h.left_is_field r lt);
      right_is_field = λ r lt. omega (arith, h.right_is_field r lt);
      ends_differ = h.ends_differ;
    }
