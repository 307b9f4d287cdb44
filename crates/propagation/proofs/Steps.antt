-- Progress from sets to sets, by strikes for want of a partner.
use Rattle.std.proofs.Common.{◌≡◌, ℕ, ◌+◌, ◌-◌, ◌^◌, ◌<◌, true, false, not, ◌&&◌, T, eqb, ◌⊎◌, List, [], ◌∷◌, ◌++◌, length, get_or, Some, None, Option, is_some, vec_items, vec_len, vec_capacity, Vec, sym, refl, ap, ◌∙◌, subst, inl, inr, arith, length-append}
use Rattle.std.proofs.lemmas.Bool.{cases_eq, eq-eqb, ne_eqb, true≢false}
use Rattle.std.proofs.lemmas.List.{append-nil, append_assoc, nil_from_length}
use Rattle.network.specs.Network.{has, Rule, Part, part, words, Within, rule_limit, option_limit}
use Rattle.network.specs.declared.rules.Side.{Side}
use Rattle.network.specs.declared.rules.Side.TheVariants.{Left, Right}
use Rattle.network.proofs.Truth.{and_T, T_left, T_right}
use Rattle.network.proofs.Bits.{has_below, has_less}
use Rattle.books.specs.Reads.{Partner}
use Rattle.propagation.specs.Strikes.{without, options, UnsupportedAt, Struck}
use Rattle.propagation.specs.Arcs.{own, across, Supported, Sound, ArcAt, strike_of}
use Rattle.propagation.specs.declared.arcs.PlacedArc.{PlacedArc}
use Rattle.propagation.specs.Progress.{Progress}
use Rattle.propagation.specs.Standing.{Led}
use Rattle.propagation.specs.declared.standing.Standing.{Standing}
use Rattle.propagation.specs.declared.record.Strike.{Strike}
use Rattle.propagation.proofs.Asking.{allowed_pairs, pairs_allowed}
use Rattle.propagation.proofs.Strikes.{counted, same_length, no_larger, joined, shrinks}

module _ {Z : Type 0} (rules : List Rule) where
  pub progress_none : (sets : List ℕ) (v : Vec Strike Z) → Progress rules sets v sets v
  progress_none sets v = record { found = []; items = sym (append-nil (vec_items v)); len = omega arith; cap = refl; struck = λ decisions. refl }

  pub progress_then : (s₀ s₁ s₂ : List ℕ) (v₀ v₁ v₂ : Vec Strike Z) → Progress rules s₀ v₀ s₁ v₁ → Progress rules s₁ v₁ s₂ v₂ → Progress rules s₀ v₀ s₂ v₂
  progress_then s₀ s₁ s₂ v₀ v₁ v₂ p q = record {
    found = p.found ++ q.found;
    items = q.items ∙ ap (λ l. l ++ q.found) p.items ∙ append_assoc (vec_items v₀) p.found q.found;
    len = omega (arith, p.len, q.len, length-append p.found q.found);
    cap = q.cap ∙ p.cap;
    struck = λ decisions. joined rules decisions p.found q.found s₀ s₁ s₂ (p.struck decisions) (q.struck decisions);
  }

  module _ (s s' : List ℕ) (v v' : Vec Strike Z) (p : Progress rules s v s' v') where
    pub progress_count : vec_len v' + options s' ≡ vec_len v + options s
    progress_count = omega (arith, p.len, counted rules [] p.found s s' (p.struck []))

    pub progress_shrinks : Within (part s') (part s)
    progress_shrinks = shrinks rules [] p.found s s' (p.struck [])

    pub progress_length : length s' ≡ length s
    progress_length = same_length rules [] p.found s s' (p.struck [])

    pub progress_sound : Sound rules s → Sound rules s'
    progress_sound h =
        let e : length s' ≡ length s = progress_length in
        record {
          few = omega (arith, h.few);
          fit = λ x. omega (arith, no_larger rules [] p.found s s' (p.struck []) x, h.fit x);
          rules_few = h.rules_few;
          own_field = λ r side lt. omega (arith, h.own_field r side lt);
          across_field = λ r side lt. omega (arith, h.across_field r side lt);
          apart = h.apart;
        }

    -- no strike, no change; else fewer options
    pub progress_still : vec_len v' ≡ vec_len v → s' ≡ s
    progress_still e =
        let none : length p.found ≡ 0 = omega (arith, p.len) in
        subst (λ l. Struck rules [] s l s') (nil_from_length p.found none) (p.struck [])

    pub progress_fewer : (vec_len v' ≡ vec_len v → ⊥) → options s' < options s
    progress_fewer ne =
        elim (cases_eq (length p.found) 0) [
          | inl e ↦ absurd (ne (omega (arith, p.len)))
          | inr some ↦ omega (arith, counted rules [] p.found s s' (p.struck []))
        ]

-- the same of what stands
module _ (rules : List Rule) where
  pub led_then : (s₀ s₁ s₂ : Standing) → Led rules s₀ s₁ → Led rules s₁ s₂ → Led rules s₀ s₂
  led_then s₀ s₁ s₂ p q = record {
    same_sets = q.same_sets ∙ p.same_sets;
    same_list = q.same_list ∙ p.same_list;
    progress = progress_then rules (words s₀.sets.now) (words s₁.sets.now) (words s₂.sets.now) s₀.strikes.now s₁.strikes.now s₂.strikes.now p.progress q.progress;
  }

pub unsupported_by : (rules : List Rule) (p : Part) (side : Side) (r a : ℕ) → (Supported rules p side r a → ⊥) → UnsupportedAt rules p side r (own rules side r) a
unsupported_by rules p Left r a none = (refl, λ b t k. none (b, (t, k)))
unsupported_by rules p Right r a none = (refl, λ b t k. none (b, (t, k)))

-- one option of an arc
module _ (rules : List Rule) (sets : List ℕ) (arc : PlacedArc) (a : ℕ) (at : ArcAt rules sets arc) (stands : T (part sets arc.own a)) where
  rule_small : arc.arc.rule < rule_limit
  rule_small = omega (arith, at.sound.rules_few, at.rule)

  module _ (w : ℕ) (across_is : get_or sets arc.across 0 ≡ w) where
    pub partner_found : (told : Option ℕ) → is_some told ≡ true → Partner rules arc.arc.side arc.arc.rule a w told → Supported rules (part sets) arc.arc.side arc.arc.rule a
    partner_found None e h = absurd (true≢false (sym e))
    partner_found (Some b) e h =
        (b, (allowed_pairs rules arc.arc.rule rule_small arc.arc.side a b h.1, subst (λ z. T (part sets z b)) at.other (subst (λ v. T (has v b)) (sym across_is) h.0)))

    pub partner_none : (told : Option ℕ) → is_some told ≡ false → Partner rules arc.arc.side arc.arc.rule a w told → Supported rules (part sets) arc.arc.side arc.arc.rule a → ⊥
    partner_none (Some b) e h k = absurd (true≢false e)
    partner_none None e h (b, (t, k)) =
        let l = at.sound.own_field arc.arc.rule Left at.rule in
        let m = at.sound.own_field arc.arc.rule Right at.rule in
        let there : T (part sets arc.across b) = subst (λ z. T (part sets z b)) (sym at.other) k in
        h b (subst (λ v. T (has v b)) across_is there) (pairs_allowed rules arc.arc.rule rule_small arc.arc.side a b (omega (arith, l, at.sound.few)) (omega (arith, m, at.sound.few))
        (has_below option_limit (get_or sets arc.own 0) a (at.sound.fit arc.own) stands) (has_below option_limit (get_or sets arc.across 0) b (at.sound.fit arc.across) there) t)

  pub progress_strike : {Z : Type 0} (v v' : Vec Strike Z) (sets' : List ℕ) → (Supported rules (part sets) arc.arc.side arc.arc.rule a → ⊥) → sets' ≡ without sets arc.own a →
      vec_items v' ≡ vec_items v ++ (strike_of arc a ∷ []) → vec_len v' ≡ vec_len v + 1 → vec_capacity v' ≡ vec_capacity v →
      Progress rules sets v sets' v'
  progress_strike v v' sets' none after items len cap =
      let u : UnsupportedAt rules (part sets) arc.arc.side arc.arc.rule arc.own a =
      subst (λ z. UnsupportedAt rules (part sets) arc.arc.side arc.arc.rule z a) (sym at.field) (unsupported_by rules (part sets) arc.arc.side arc.arc.rule a none) in
      record {
        found = strike_of arc a ∷ [];
        items = items;
        len = omega (arith, len);
        cap = cap;
        struck = λ decisions. (stands, ((at.rule, u), after));
      }

-- the arc after some options were struck
pub at_after : {Z : Type 0} (rules : List Rule) (s s' : List ℕ) (v v' : Vec Strike Z) (arc : PlacedArc) → Progress rules s v s' v' → ArcAt rules s arc → ArcAt rules s' arc
at_after rules s s' v v' arc p at = record { sound = progress_sound rules s s' v v' p at.sound; rule = at.rule; field = at.field; other = at.other }

-- an option keeps its partner where the field across is as it was
pub support_stays : (rules : List Rule) (s s' : List ℕ) (side : Side) (r a : ℕ) → get_or s' (across rules side r) 0 ≡ get_or s (across rules side r) 0 → Supported rules (part s) side r a → Supported rules (part s') side r a
support_stays rules s s' side r a e (b, (t, h)) = (b, (t, subst (λ w. T (has w b)) (sym e) h))

-- revising the options of a field, one after the other: those that wait stand, and of those that stand all that no longer wait have a partner
pub record Walk (rules : List Rule) (sets : List ℕ) (side : Side) (r x waiting : ℕ) : Type 0 where
  pub stand : (b : ℕ) → T (has waiting b) → T (part sets x b)
  pub seen : (b : ℕ) → T (part sets x b) → T (has waiting b) ⊎ Supported rules (part sets) side r b

pub walk_start : (rules : List Rule) (sets : List ℕ) (side : Side) (r x : ℕ) → Walk rules sets side r x (get_or sets x 0)
walk_start rules sets side r x = record { stand = λ b t. t; seen = λ b t. inl t }

module _ (rules : List Rule) (s s' : List ℕ) (side : Side) (r x waiting a : ℕ) (walk : Walk rules s side r x waiting) (first : T (has waiting a)) where
  left : (b : ℕ) → has (waiting - 2 ^ a) b ≡ (has waiting b && not (eqb b a))
  left b = has_less waiting a b first

  still : (b : ℕ) → T (has waiting b) → (b ≡ a → ⊥) → T (has (waiting - 2 ^ a) b)
  still b t ne = subst T (sym (left b)) (and_T (has waiting b) (not (eqb b a)) t (subst (λ v. T (not v)) (sym (ne_eqb b a ne)) tt))

  not_first : (b : ℕ) → T (has (waiting - 2 ^ a) b) → b ≡ a → ⊥
  not_first b t e =
      subst (λ v. T (not v)) (eq-eqb b a e) (T_right (has waiting b) (not (eqb b a)) (subst T (left b) t))

  pub walk_next : Within (part s') (part s) → get_or s' (across rules side r) 0 ≡ get_or s (across rules side r) 0 →
      ((b : ℕ) → (b ≡ a → ⊥) → T (part s x b) → T (part s' x b)) → (T (part s' x a) → Supported rules (part s') side r a) →
      Walk rules s' side r x (waiting - 2 ^ a)
  walk_next shrunk same stays here = record {
    stand = λ b t. stays b (not_first b t) (walk.stand b (T_left (has waiting b) _ (subst T (left b) t)));
    seen = λ b t. elim (cases_eq b a) [
      | inl e ↦ inr (subst (Supported rules (part s') side r) (sym e) (here (subst (λ z. T (part s' x z)) e t)))
      | inr ne ↦ elim (walk.seen b (shrunk x b t)) [
        | inl w ↦ inl (still b w ne)
        | inr k ↦ inr (support_stays rules s s' side r b same k)
      ]
    ];
  }
