-- What a tightening rests on: parts under the pair rules, what a probe may take away, and when nothing is left to do.
use Rattle.std.proofs.Common.{◌≡◌, ℕ, ◌<◌, ◌≤◌, cond, T, eqb, ◌≢◌, List, length, sym, refl, ap, ◌∙◌, subst, ⊎_elim, arith, eqb→eq}
use Rattle.std.proofs.lemmas.Grind.{common_steps}
use lib.Dec.{eqb_refl}
use Rattle.std.proofs.lemmas.Bool.{cases_lt, cases_eq, eq-eqb, ne_eqb}
use Rattle.network.specs.Network.{Rule, Part, part, Within, rule_at, PartnerLeft, PartnerRight, ArcConsistent, InLargest, Largest}
use Rattle.propagation.specs.Opening.{IsWipedOut}
use Rattle.books.specs.Pairs.{Pairs, pair_rule, pair_rules, triangle, pair_at, place}
use Rattle.tightening.specs.Underway.{Covers, Consistent, Probed}
use Rattle.tightening.specs.Tightening.{Stands, narrowed, row, InFullLargest, StronglyDual, TightOption, TightPair, Tightest}
use Rattle.network.proofs.Truth.{yes_T, T_yes, and_T, T_left, T_right}
use Rattle.propagation.proofs.Strikes.{is_field}
use Rattle.books.proofs.Pairing.{rule_of, rule_is, rules_length, ends_order, ends_below, place_below, place_ends}

-- a partner of option a of field x in field y: a kept option, paired with a in both orders
pub record Partner (q : Pairs) (p : Part) (x a y : ℕ) : Type 0 where
  pub option : ℕ
  pub forth : T (q x a y option)
  pub back : T (q y option x a)
  pub kept : T (p y option)

-- arc consistency under the pair rules, with no mention of their places
abbrev pub Supported : ℕ → Pairs → Part → Type 0
Supported n q p = (x a y : ℕ) → x < n → y < n → x ≢ y → T (p x a) → Partner q p x a y

module _ (n : ℕ) (q : Pairs) (p : Part) where
  place_rule : (x y : ℕ) → x < y → y < n → rule_at (pair_rules n q) (place n x y) ≡ pair_rule q x y
  place_rule x y h l =
      rule_is n q (place n x y) (let k = rules_length n q in let b = place_below n x y h l in omega arith) ∙ ap (rule_of q) (place_ends n x y h l)

  place_in_list : (x y : ℕ) → x < y → y < n → place n x y < length (pair_rules n q)
  place_in_list x y h l = let k = rules_length n q in let b = place_below n x y h l in omega arith

  up : ArcConsistent (pair_rules n q) p → (x a y : ℕ) → x < y → y < n → T (p x a) → Partner q p x a y
  up arc x a y h l t =
      let is = place_rule x y h l in
      let m = subst (λ (rule : Rule). T (p rule.left a) → PartnerRight p rule a) is (arc.on_left (place n x y) a (place_in_list x y h l)) t in
      record { option = m.0; forth = T_left (q x a y m.0) _ m.1.0; back = T_right (q x a y m.0) _ m.1.0; kept = m.1.1 }

  down : ArcConsistent (pair_rules n q) p → (x a y : ℕ) → y < x → x < n → T (p x a) → Partner q p x a y
  down arc x a y h l t =
      let is = place_rule y x h l in
      let m = subst (λ (rule : Rule). T (p rule.right a) → PartnerLeft p rule a) is (arc.on_right (place n y x) a (place_in_list y x h l)) t in
      record { option = m.0; forth = T_right (q y m.0 x a) _ m.1.0; back = T_left (q y m.0 x a) _ m.1.0; kept = m.1.1 }

  pub arc_supported : ArcConsistent (pair_rules n q) p → Supported n q p
  arc_supported arc x a y h l ne t = grind (arith, common_steps, down, up)

  supported_left : Supported n q p → (x y a : ℕ) → x < y → y < n → T (p x a) → PartnerRight p (pair_rule q x y) a
  supported_left s x y a o b t =
      let m = s x a y (omega arith) b (λ e. omega arith) t in
      (m.option, (and_T (q x a y m.option) (q y m.option x a) m.forth m.back, m.kept))

  supported_right : Supported n q p → (x y b : ℕ) → x < y → y < n → T (p y b) → PartnerLeft p (pair_rule q x y) b
  supported_right s x y b o l t =
      let m = s y b x l (omega arith) (λ e. omega arith) t in
      (m.option, (and_T (q x m.option y b) (q y b x m.option) m.back m.forth, m.kept))

  pub supported_arc : Supported n q p → ArcConsistent (pair_rules n q) p
  supported_arc s = record {
    on_left = λ r a l.
        let k = rules_length n q in
        let below : r < triangle n = omega arith in
        subst (λ (rule : Rule). T (p rule.left a) → PartnerRight p rule a) (sym (rule_is n q r l))
        (supported_left s (pair_at n r).0 (pair_at n r).1 a (ends_order n r below) (ends_below n r below));
    on_right = λ r b l.
        let k = rules_length n q in
        let below : r < triangle n = omega arith in
        subst (λ (rule : Rule). T (p rule.right b) → PartnerLeft p rule b) (sym (rule_is n q r l))
        (supported_right s (pair_at n r).0 (pair_at n r).1 b (ends_order n r below) (ends_below n r below));
  }

-- MONOTONICITY
-- each pair of two of the n fields that q keeps, q' keeps
abbrev pub PairsWithin : ℕ → Pairs → Pairs → Type 0
PairsWithin n q q' = (x a y b : ℕ) → x < n → y < n → T (q x a y b) → T (q' x a y b)

pub supported_grows : (n : ℕ) (q q' : Pairs) (p : Part) → PairsWithin n q q' → Supported n q p → Supported n q' p
supported_grows n q q' p w s x a y h l ne t =
    let m = s x a y h l ne t in
    record { option = m.option; forth = w x a y m.option h l m.forth; back = w y m.option x a l h m.back; kept = m.kept }

pub arc_grows : (n : ℕ) (q q' : Pairs) (p : Part) → PairsWithin n q q' → ArcConsistent (pair_rules n q) p → ArcConsistent (pair_rules n q') p
arc_grows n q q' p w arc = supported_arc n q' p (supported_grows n q q' p w (arc_supported n q p arc))

pub largest_grows : (n : ℕ) (q q' : Pairs) (p p' : Part) → PairsWithin n q q' → Within p p' → (x a : ℕ)
    → InLargest (pair_rules n q) p x a → InLargest (pair_rules n q') p' x a
largest_grows n q q' p p' w v x a i = grind (arith, common_steps, arc_grows)

pub full_grows : (n : ℕ) (q q' : Pairs) (p p' : Part) → PairsWithin n q q' → Within p p' → (x a : ℕ)
    → InFullLargest n (pair_rules n q) p x a → InFullLargest n (pair_rules n q') p' x a
full_grows n q q' p p' w v x a i = record {
  full = λ z l. let c = i.full z l in (c.0, largest_grows n q q' p p' w v z c.0 c.1);
  member = largest_grows n q q' p p' w v x a i.member;
}

-- what a largest part has is in the whole
pub largest_within : (rules : List Rule) (p : Part) (x a : ℕ) → InLargest rules p x a → T (p x a)
largest_within rules p x a i = i.1.0 x a i.1.1.1

-- a supported part of p is in its largest part
pub in_largest : (n : ℕ) (q : Pairs) (p s : Part) → Within s p → Supported n q s → (x a : ℕ) → T (s x a) → InLargest (pair_rules n q) p x a
in_largest n q p s w h x a t = (s, (w, (supported_arc n q s h, t)))

-- NARROWING
pub narrowed_within : (p : Part) (x a : ℕ) → Within (narrowed p x a) p
narrowed_within p x a y b t = T_left (p y b) _ t

pub narrowed_to : (p : Part) (x a b : ℕ) → T (narrowed p x a x b) → b ≡ a
narrowed_to p x a b t = grind (arith, common_steps)

pub narrowed_in : (p : Part) (x a y b : ℕ) → T (p y b) → (y ≡ x → b ≡ a) → T (narrowed p x a y b)
narrowed_in p x a y b t f = grind (arith, common_steps, eq-eqb, ne_eqb)

pub narrowed_grows : (p p' : Part) (x a : ℕ) → Within p p' → Within (narrowed p x a) (narrowed p' x a)
narrowed_grows p p' x a w y b t = and_T _ _ (w y b (T_left (p y b) _ t)) (T_right (p y b) _ t)

-- an option in the largest part of a probe is a pair of the probed option, in both orders
pub probed_pair : (n : ℕ) (q : Pairs) (p : Part) (x a y b : ℕ) → x < n → y < n → x ≢ y
    → InLargest (pair_rules n q) (narrowed p x a) y b → T (q x a y b) × T (q y b x a)
probed_pair n q p x a y b h l ne i =
    let m = arc_supported n q i.0 i.1.1.0 y b x l h (λ e. ne (sym e)) i.1.1.1 in
    let is = narrowed_to p x a m.option (i.1.0 x m.option m.kept) in
    (subst (λ z. T (q x z y b)) is m.back, subst (λ z. T (q y b x z)) is m.forth)

-- STRONGLY DUAL PARTS
module _ (rules : List Rule) (sets : List ℕ) where
  -- the probe of a kept option has an option in each field
  pub kept_full : (p : Part) (q : Pairs) → StronglyDual rules sets p q → (x a : ℕ) → T (p x a) → (z : ℕ) → z < length sets
      → (c : ℕ) × InLargest (pair_rules (length sets) q) (narrowed p x a) z c
  kept_full p q sd x a t z l =
      let n = length sets in
      let h : x < n = is_field sets x a (sd.options x a t) in
      let by_pair : (y : ℕ) → y < n → x ≢ y → (c : ℕ) × InLargest (pair_rules n q) (narrowed p x a) z c =
      λ y k ne. let m = arc_supported n q p sd.arc x a y h k ne t in (sd.dual x a y m.option m.forth).full z l in
      ⊎_elim
      (λ more. ⊎_elim (λ e. by_pair 1 more (λ e'. omega arith)) (λ ne. by_pair 0 (omega arith) ne) (cases_eq x 0))
      (λ (one : n ≤ 1).
      let same : z ≡ x = omega arith in (
        a,
        in_largest n q (narrowed p x a) (narrowed p x a) (λ y b s. s) (λ y b v k k' ne s. absurd (ne (omega arith))) z a
            (narrowed_in p x a z a (subst (λ v. T (p v a)) (sym same) t) (λ _. refl)),
      ))
      (cases_lt 1 n)

  pub covers_start : (q : Pairs) → ((x a y b : ℕ) → Stands rules sets x a y b → T (q x a y b)) → Covers rules sets (part sets) q
  covers_start q h = record {
    options = λ x a o. o.1.1.0.options x a o.1.1.1;
    pairs = λ x a y b o. h x a y b (o.1.1.0.pairs x a y b o.1.1.1).0;
  }

  module _ (p : Part) (q : Pairs) (cov : Covers rules sets p q) where
    options_within : (p' : Part) (q' : Pairs) → StronglyDual rules sets p' q' → Within p' p
    options_within p' q' sd x a t = cov.options x a (p', (q', (sd, t)))

    pairs_within : (p' : Part) (q' : Pairs) → StronglyDual rules sets p' q' → PairsWithin (length sets) q' q
    pairs_within p' q' sd x a y b h l t = cov.pairs x a y b (p', (q', (sd, t)))

    -- a probe with an empty field: the probed option is in no strongly dual part
    pub probe_empty : (x a : ℕ) → IsWipedOut (pair_rules (length sets) q) (length sets) (narrowed p x a) → TightOption rules sets x a → ⊥
    probe_empty x a w (p', (q', (sd, t))) =
        let c = kept_full p' q' sd x a t w.0 w.1.0 in
        w.1.1 c.0
        (largest_grows (length sets) q' q (narrowed p' x a) (narrowed p x a) (pairs_within p' q' sd)
        (narrowed_grows p' p x a (options_within p' q' sd)) w.0 c.0 c.1)

    -- any probe: a pair whose other option is not in the largest part is in no strongly dual part
    pub probe_keeps : (x a y b : ℕ) → TightPair rules sets x a y b → InLargest (pair_rules (length sets) q) (narrowed p x a) y b
    probe_keeps x a y b (p', (q', (sd, t))) =
        largest_grows (length sets) q' q (narrowed p' x a) (narrowed p x a) (pairs_within p' q' sd)
        (narrowed_grows p' p x a (options_within p' q' sd)) y b (sd.dual x a y b t).member

  -- the pairs of a strongly dual part in the other order, and their options
  pub tight_mirror : (x a y b : ℕ) → TightPair rules sets x a y b → TightPair rules sets y b x a
  tight_mirror x a y b (p, (q, (sd, t))) = (p, (q, (sd, sd.both_orders x a y b t)))

  pub tight_first : (x a y b : ℕ) → TightPair rules sets x a y b → TightOption rules sets x a
  tight_first x a y b (p, (q, (sd, t))) = (p, (q, (sd, (sd.pairs x a y b t).1.0)))

  pub tight_second : (x a y b : ℕ) → TightPair rules sets x a y b → TightOption rules sets y b
  tight_second x a y b (p, (q, (sd, t))) = (p, (q, (sd, (sd.pairs x a y b t).1.1)))

  -- A PROBE KEEPS EVERY STRONGLY DUAL PART
  -- emptied: the option and its pairs may go
  pub covers_struck : (p p' : Part) (q q' : Pairs) (x a : ℕ) → Covers rules sets p q → IsWipedOut (pair_rules (length sets) q) (length sets) (narrowed p x a)
      → ((y b : ℕ) → T (p y b) → (y ≡ x → b ≡ a → ⊥) → T (p' y b))
      → ((y b z c : ℕ) → T (q y b z c) → (y ≡ x → b ≡ a → ⊥) → (z ≡ x → c ≡ a → ⊥) → T (q' y b z c))
      → Covers rules sets p' q'
  covers_struck p p' q q' x a cov w f g =
      let gone : (y b : ℕ) → TightOption rules sets y b → y ≡ x → b ≡ a → ⊥ =
      λ y b o e h. probe_empty p q cov x a w (subst (λ z. TightOption rules sets z a) e (subst (λ c. TightOption rules sets y c) h o)) in
      record {
        options = λ y b o. f y b (cov.options y b o) (gone y b o);
        pairs = λ y b z c o. g y b z c (cov.pairs y b z c o) (gone y b (tight_first y b z c o)) (gone z c (tight_second y b z c o));
      }

  -- settled: the pairs with what is not in the largest part may go
  pub covers_pruned : (p : Part) (q q' : Pairs) (x a : ℕ) (l : Part) → Covers rules sets p q → Largest (pair_rules (length sets) q) (narrowed p x a) l
      → ((y b z c : ℕ) → T (q y b z c) → (y ≡ x → b ≡ a → T (l z c)) → (z ≡ x → c ≡ a → T (l y b)) → T (q' y b z c))
      → Covers rules sets p q'
  covers_pruned p q q' x a l cov large g =
      let keeps : (y b z c : ℕ) → TightPair rules sets y b z c → y ≡ x → b ≡ a → T (l z c) =
      λ y b z c o e h. large.only z c (probe_keeps p q cov x a z c (subst (λ v. TightPair rules sets v a z c) e (subst (λ d. TightPair rules sets y d z c) h o))) in
      record {
        options = cov.options;
        pairs = λ y b z c o. g y b z c (cov.pairs y b z c o) (keeps y b z c o) (keeps z c y b (tight_mirror y b z c o));
      }

  -- THE END
  -- full probes give each kept option a partner in each field
  pub probed_supported : (p : Part) (q : Pairs) → Consistent rules sets p q → ((x a : ℕ) → T (p x a) → Probed rules sets p q x a) → Supported (length sets) q p
  probed_supported p q st done x a y h l ne t =
      let c = (done x a t).full y l in
      let m = probed_pair (length sets) q p x a y c.0 h l ne c.1 in
      record { option = c.0; forth = m.0; back = m.1; kept = narrowed_within p x a y c.0 (largest_within (pair_rules (length sets) q) (narrowed p x a) y c.0 c.1) }

  pub end_dual : (p : Part) (q : Pairs) → Consistent rules sets p q → ((x a : ℕ) → T (p x a) → Probed rules sets p q x a) → StronglyDual rules sets p q
  end_dual p q st done = record {
    options = st.options;
    pairs = st.pairs;
    both_orders = λ x a y b t.
        let s = st.pairs x a y b t in
        (probed_pair (length sets) q p x a y b (is_field sets x a s.0.first) (is_field sets y b s.0.second) s.0.apart ((done x a s.1.0).holds y b t)).1;
    arc = supported_arc (length sets) q p (probed_supported p q st done);
    dual = λ x a y b t. let d = done x a (st.pairs x a y b t).1.0 in record { full = d.full; member = d.holds y b t };
  }

  pub end_tightest : (p : Part) (q : Pairs) → Covers rules sets p q → Consistent rules sets p q → ((x a : ℕ) → T (p x a) → Probed rules sets p q x a) → Tightest rules sets p q
  end_tightest p q cov st done =
      let sd = end_dual p q st done in
      record {
        all_options = λ x a t. (p, (q, (sd, t)));
        only_options = cov.options;
        all_pairs = λ x a y b t. (p, (q, (sd, t)));
        only_pairs = cov.pairs;
      }

  -- a probe whose lost pairs are taken away is then done
  pub probed_after : (p : Part) (q q' : Pairs) (x a : ℕ) (l : Part) → Largest (pair_rules (length sets) q) (narrowed p x a) l
      → ((z : ℕ) → z < length sets → (c : ℕ) × T (l z c))
      → ((y b z c : ℕ) → T (q y b z c) → T (l y b) → T (l z c) → T (q' y b z c))
      → ((y b : ℕ) → T (q' x a y b) → T (l y b))
      → Probed rules sets p q' x a
  probed_after p q q' x a l large full g f =
      let n = length sets in
      let sup : Supported n q' l =
      λ y b z h k ne t.
      let i = large.all y b t in
      let m = arc_supported n q i.0 i.1.1.0 y b z h k ne i.1.1.1 in
      let there : T (l z m.option) = large.only z m.option (i.0, (i.1.0, (i.1.1.0, m.kept))) in
      record { option = m.option; forth = g y b z m.option m.forth t there; back = g z m.option y b m.back there t; kept = there } in
      let inside : Within l (narrowed p x a) = λ y b t. largest_within (pair_rules n q) (narrowed p x a) y b (large.all y b t) in
      record {
        full = λ z k. let c = full z k in (c.0, in_largest n q' (narrowed p x a) l inside sup z c.0 c.1);
        holds = λ y b t. in_largest n q' (narrowed p x a) l inside sup y b (f y b t);
      }

  -- AN EMPTY FIELD
  pub covers_empty : (p : Part) (q : Pairs) (x : ℕ) → Covers rules sets p q → ((a : ℕ) → T (p x a) → ⊥) → (a : ℕ) → TightOption rules sets x a → ⊥
  covers_empty p q x cov none a o = none a (cov.options x a o)

  -- where one field is empty in the largest part, all are
  pub tight_together : (x : ℕ) → x < length sets → ((a : ℕ) → TightOption rules sets x a → ⊥) → (y b : ℕ) → TightOption rules sets y b → ⊥
  tight_together x h none y b (p, (q, (sd, t))) =
      ⊎_elim
      (λ e. none b (subst (λ z. TightOption rules sets z b) e (p, (q, (sd, t)))))
      (λ ne. let m = arc_supported (length sets) q p sd.arc y b x (is_field sets y b (sd.options y b t)) h ne t in none m.option (p, (q, (sd, m.kept))))
      (cases_eq y x)

  -- AFTER A TIGHTENING
  pub tightest_covers : (p : Part) (q : Pairs) → Tightest rules sets p q → Covers rules sets p q
  tightest_covers p q h = record { options = h.only_options; pairs = h.only_pairs }

  -- the union is itself such a part
  pub tightest_dual : (p : Part) (q : Pairs) → Tightest rules sets p q → StronglyDual rules sets p q
  tightest_dual p q h =
      let n = length sets in
      let cov = tightest_covers p q h in
      let st : Consistent rules sets p q = record {
        options = λ x a t. let o = h.all_options x a t in o.1.1.0.options x a o.1.1.1;
        pairs = λ x a y b t.
            let o = h.all_pairs x a y b t in
            ((o.1.1.0.pairs x a y b o.1.1.1).0, (h.only_options x a (tight_first x a y b o), h.only_options y b (tight_second x a y b o)));
      } in
      end_dual p q st
      (λ x a t. record {
        full = λ z l.
            let o = h.all_options x a t in
            let c = kept_full o.0 o.1.0 o.1.1.0 x a o.1.1.1 z l in (
              c.0,
              largest_grows n o.1.0 q (narrowed o.0 x a) (narrowed p x a) (pairs_within p q cov o.0 o.1.0 o.1.1.0)
                  (narrowed_grows o.0 p x a (options_within p q cov o.0 o.1.0 o.1.1.0)) z c.0 c.1,
            );
        holds = λ y b s. probe_keeps p q cov x a y b (h.all_pairs x a y b s);
      })

  row_same : (q : Pairs) (x a b : ℕ) → row q x a x b ≡ eqb a b
  row_same q x a b = ap (λ v. cond v (eqb a b) (q x a x b)) (yes_T (eqb x x) (eqb_refl x))

  row_other : (q : Pairs) (x a y b : ℕ) → x ≢ y → row q x a y b ≡ q x a y b
  row_other q x a y b ne = ap (λ v. cond v (eqb a b) (q x a y b)) (ne_eqb x y ne)

  -- narrowed to any kept option, the largest part is what the option is paired with, and it is full
  pub tightest_rows : (p : Part) (q : Pairs) → Tightest rules sets p q → (x a : ℕ) → T (p x a)
      → Largest (pair_rules (length sets) q) (narrowed p x a) (row q x a) × ((z : ℕ) → z < length sets → (c : ℕ) × T (row q x a z c))
  tightest_rows p q h x a t =
      let n = length sets in
      let sd = tightest_dual p q h in
      let k : x < n = is_field sets x a (sd.options x a t) in
      let full = kept_full p q sd x a t in
      let self : InLargest (pair_rules n q) (narrowed p x a) x a =
      let c = full x k in
      subst (InLargest (pair_rules n q) (narrowed p x a) x) (narrowed_to p x a c.0 (largest_within (pair_rules n q) (narrowed p x a) x c.0 c.1)) c.1 in
      let only : (y b : ℕ) → InLargest (pair_rules n q) (narrowed p x a) y b → T (row q x a y b) =
      λ y b i.
      let there = largest_within (pair_rules n q) (narrowed p x a) y b i in
      ⊎_elim
      (λ e. let is = narrowed_to p x a b (subst (λ z. T (narrowed p x a z b)) (sym e) there) in
      subst (λ z. T (row q x a z b)) e (T_yes (row q x a x b) (row_same q x a b ∙ eq-eqb a b (sym is))))
      (λ ne. subst T (sym (row_other q x a y b ne))
      (probed_pair n q p x a y b k (is_field sets y b (sd.options y b (narrowed_within p x a y b there))) ne i).0)
      (cases_eq x y) in (
        record {
          all = λ y b s.
              ⊎_elim
              (λ e. let is = eqb→eq a b (subst T (row_same q x a b) (subst (λ z. T (row q x a z b)) (sym e) s)) in
              subst (λ z. InLargest (pair_rules n q) (narrowed p x a) z b) e (subst (InLargest (pair_rules n q) (narrowed p x a) x) is self))
              (λ ne. (sd.dual x a y b (subst T (row_other q x a y b ne) s)).member)
              (cases_eq x y);
          only = only;
        },
        λ z l. let c = full z l in (c.0, only z c.0 c.1),
      )
