-- The strikes of a choose: how they are made, one option after another, and that they leave the chosen option alone in its field.
use Rattle.std.proofs.Common.{◌≡◌, ℕ, zero, suc, ◌+◌, ◌-◌, ◌*◌, ◌/◌, ◌%◌, ◌^◌, ◌<◌, ◌≤◌, Bool, true, false, cond, not, ◌&&◌, T, eqb, ltb, List, [], ◌∷◌, ◌++◌, length, get_or, set, sym, refl, ap, ◌∙◌, subst, inl, inr, ⊎_elim, mul_assoc, mul_comm, add-mul, suc-add, pow-suc, zero-add, add-one, arith}
use Rattle.std.proofs.lemmas.Nat.{pow_pos, pow_below, shr-shr, div-add-mod', div-mul-add, div_below, mod_below}
use Rattle.std.proofs.lemmas.List.{append-nil, length-append, get_or-set_same, set-set, set-get_or}
use Rattle.std.proofs.lemmas.Bool.{cases_Bool, cases_lt, cases_eq, eq-eqb, ne_eqb, eqb-true, eqb-false, lt-ltb, le-ltb, cond-true, cond-false, and_from, and_parts, and_cases, not-true, not-false, not_from_false, both_ways}
use Rattle.network.specs.Network.{option_limit, has, part, Rule}
use Rattle.network.specs.Sets.{set_without}
use Rattle.network.proofs.Truth.{yes_T, T_yes, and_true, and_false}
use Rattle.network.proofs.Bits.{has_below, has_less, none_of_zero}
use Rattle.network.proofs.Masks.{has_without}
use Rattle.propagation.specs.Strikes.{Struck, InForce}
use Rattle.propagation.specs.declared.record.Strike.{Strike}
use Rattle.propagation.specs.declared.record.Cause.TheVariants.{Decided}
use Rattle.propagation.specs.declared.record.Decision.{Decision}
use Rattle.propagation.specs.declared.record.Decision.TheVariants as decision
use Rattle.draft.specs.Draft.{strikes_below, choose_strikes}
use Rattle.propagation.proofs.Strikes.{is_field}
use Rattle.draft.proofs.Strikes.{struck_append}

abbrev pub chosen_out : ℕ → ℕ → ℕ → Strike
chosen_out x a b = record { field = x; option = b; cause = Decided (decision.Choose x a) }

-- whether a choose of a strikes b
abbrev pub goes : ℕ → ℕ → ℕ → Bool
goes w a b = has w b && not (eqb b a)

module _ (w x a : ℕ) where
  pub below_none : strikes_below 0 w x a ≡ []
  unfolding strikes_below
  below_none = refl

  pub below_goes : (b : ℕ) → goes w a b ≡ true → strikes_below (suc b) w x a ≡ strikes_below b w x a ++ chosen_out x a b ∷ []
  unfolding strikes_below
  below_goes b h = ap (λ t. strikes_below b w x a ++ cond t (chosen_out x a b ∷ []) []) h

  pub below_stays : (b : ℕ) → goes w a b ≡ false → strikes_below (suc b) w x a ≡ strikes_below b w x a
  unfolding strikes_below
  below_stays b h = ap (λ t. strikes_below b w x a ++ cond t (chosen_out x a b ∷ []) []) h ∙ append-nil (strikes_below b w x a)

  below_grows : (b k : ℕ) → length (strikes_below b w x a) ≤ length (strikes_below (k + b) w x a)
  below_grows b zero = rw zero-add (omega arith)
  below_grows b (suc k) =
      let ih = below_grows b k in
      ⊎_elim
      (λ t. let f = ap length (below_goes (k + b) t) in let l = length-append (strikes_below (k + b) w x a) (chosen_out x a (k + b) ∷ []) in rw suc-add (omega arith))
      (λ t. let f = ap length (below_stays (k + b) t) in rw suc-add (omega arith))
      (cases_Bool (goes w a (k + b)))

  -- one that goes comes before the end
  pub below_room : (b : ℕ) → b < option_limit → goes w a b ≡ true → length (strikes_below b w x a) < length (choose_strikes w x a)
  below_room b lt h =
      let n : ℕ = option_limit - suc b in
      let e : n + suc b ≡ option_limit = omega arith in
      let g : length (strikes_below (suc b) w x a) ≤ length (strikes_below option_limit w x a) = rw e at (below_grows (suc b) n) in
      let f = ap length (below_goes b h) in
      let l = length-append (strikes_below b w x a) (chosen_out x a b ∷ []) in
      omega arith

-- a set with no option below n has none that a choose strikes there
none_below : (w x a n : ℕ) → ((b : ℕ) → b < n → has w b ≡ false) → strikes_below n w x a ≡ []
none_below w x a zero low = below_none w x a
none_below w x a (suc n) low =
    below_stays w x a n (ap (λ h. h && not (eqb n a)) (low n (omega arith))) ∙ none_below w x a n (λ b l. low b (omega arith))

pub none_struck : (x a n : ℕ) → strikes_below n 0 x a ≡ []
none_struck x a n = none_below 0 x a n (λ b l. none_of_zero b)

-- sets that differ only in options that are not struck have the same strikes
same_below : (w v x a n : ℕ) → ((b : ℕ) → goes w a b ≡ goes v a b) → strikes_below n w x a ≡ strikes_below n v x a
same_below w v x a zero same = below_none w x a ∙ sym (below_none v x a)
same_below w v x a (suc n) same =
    ⊎_elim
    (λ t. below_goes w x a n t ∙ ap (λ ss. ss ++ chosen_out x a n ∷ []) (same_below w v x a n same) ∙ sym (below_goes v x a n (sym (same n) ∙ t)))
    (λ t. below_stays w x a n t ∙ same_below w v x a n same ∙ sym (below_stays v x a n (sym (same n) ∙ t)))
    (cases_Bool (goes w a n))

-- the chosen option itself makes no difference
pub others_struck : (w x a n : ℕ) → strikes_below n (set_without w a) x a ≡ strikes_below n w x a
others_struck w x a n = same_below (set_without w a) w x a n (λ b. ap (λ h. h && not (eqb b a)) (has_without w a b) ∙ twice (has w b) (not (eqb b a)))
  where
    twice : (p q : Bool) → ((p && q) && q) ≡ (p && q)
    twice true true = refl
    twice true false = refl
    twice false q = refl

-- the lowest option of a set is struck first
module _ (w x a low : ℕ) (here : T (has w low)) (least : (b : ℕ) → b < low → has w b ≡ false) (other : low ≡ a → ⊥) where
  rest_has : (b : ℕ) → has (w - 2 ^ low) b ≡ (has w b && not (eqb b low))
  rest_has b = has_less w low b here

  at_lowest : strikes_below (suc low) w x a ≡ chosen_out x a low ∷ strikes_below (suc low) (w - 2 ^ low) x a
  at_lowest =
      let gone : has (w - 2 ^ low) low ≡ false = rest_has low ∙ ap (λ v. has w low && not v) (eq-eqb low low refl) ∙ and_false (has w low) in
      let after = below_stays (w - 2 ^ low) x a low (ap (λ h. h && not (eqb low a)) gone) ∙ none_below (w - 2 ^ low) x a low (λ b l. rest_has b ∙ ap (λ h. h && not (eqb b low)) (least b l)) in
      below_goes w x a low (and_from (has w low) (not (eqb low a)) (yes_T (has w low) here) (not_from_false (eqb low a) (ne_eqb low a other)))
      ∙ ap (λ ss. ss ++ chosen_out x a low ∷ []) (none_below w x a low least) ∙ ap (λ ss. chosen_out x a low ∷ ss) (sym after)

  pub lowest_first : (n : ℕ) → low < n → strikes_below n w x a ≡ chosen_out x a low ∷ strikes_below n (w - 2 ^ low) x a
  lowest_first zero l = absurd (omega arith)
  lowest_first (suc n) l =
      elim (cases_eq n low) [
        | inl e ↦ subst (λ k. strikes_below (suc k) w x a ≡ chosen_out x a low ∷ strikes_below (suc k) (w - 2 ^ low) x a) (sym e) at_lowest
        | inr ne ↦
            let before = lowest_first n (omega arith) in
            let same : goes (w - 2 ^ low) a n ≡ goes w a n = ap (λ h. h && not (eqb n a)) (rest_has n ∙ ap (λ v. has w n && not v) (ne_eqb n low ne) ∙ and_true (has w n)) in
            ⊎_elim
            (λ t. below_goes w x a n t ∙ ap (λ ss. ss ++ chosen_out x a n ∷ []) before ∙ ap (λ ss. chosen_out x a low ∷ ss) (sym (below_goes (w - 2 ^ low) x a n (same ∙ t))))
            (λ t. below_stays w x a n t ∙ before ∙ ap (λ ss. chosen_out x a low ∷ ss) (sym (below_stays (w - 2 ^ low) x a n (same ∙ t))))
            (cases_Bool (goes w a n))
      ]

-- the set once the others below n are struck: the options from n on, and the chosen one if it is below n
abbrev low : ℕ → ℕ → ℕ
low a n = cond (ltb a n) (2 ^ a) 0

abbrev high : ℕ → ℕ → ℕ
high w n = (w / 2 ^ n) * 2 ^ n

abbrev kept : ℕ → ℕ → ℕ → ℕ
kept w a n = high w n + low a n

high_step : (w n : ℕ) → high w n ≡ high w (suc n) + (w / 2 ^ n) % 2 * 2 ^ n
high_step w n =
    let q : ℕ = w / 2 ^ n in
    let e : w / 2 ^ suc n ≡ q / 2 = ap (λ k. w / 2 ^ k) (sym (add-one n)) ∙ sym (shr-shr w n 1) in
    let p : 2 ^ suc n ≡ 2 * 2 ^ n = pow-suc 2 n ∙ mul_comm (2 ^ n) 2 in
    let s : high w (suc n) ≡ q / 2 * 2 * 2 ^ n = ap (λ m. m * 2 ^ suc n) e ∙ ap (λ m. q / 2 * m) p ∙ sym (mul_assoc (q / 2) 2 (2 ^ n)) in
    let r : q * 2 ^ n ≡ q / 2 * 2 * 2 ^ n + q % 2 * 2 ^ n = ap (λ m. m * 2 ^ n) (sym (div-add-mod' q 2)) ∙ add-mul (q / 2 * 2) (q % 2) (2 ^ n) in
    r ∙ ap (λ m. m + q % 2 * 2 ^ n) (sym s)

low_same : (a n : ℕ) → (n ≡ a → ⊥) → low a (suc n) ≡ low a n
low_same a n ne =
    ⊎_elim
    (λ lt. cond-true (ltb a (suc n)) (2 ^ a) 0 (lt-ltb a (suc n) (omega arith)) ∙ sym (cond-true (ltb a n) (2 ^ a) 0 (lt-ltb a n lt)))
    (λ ge. cond-false (ltb a (suc n)) (2 ^ a) 0 (le-ltb a (suc n) (omega arith)) ∙ sym (cond-false (ltb a n) (2 ^ a) 0 (le-ltb a n ge)))
    (cases_lt a n)

low_at : (a : ℕ) → (low a a ≡ 0) × (low a (suc a) ≡ 2 ^ a)
low_at a = (cond-false (ltb a a) (2 ^ a) 0 (le-ltb a a (omega arith)), cond-true (ltb a (suc a)) (2 ^ a) 0 (lt-ltb a (suc a) (omega arith)))

low_below : (a n : ℕ) → low a n < 2 ^ n
low_below a n =
    ⊎_elim
    (λ lt. let e = cond-true (ltb a n) (2 ^ a) 0 (lt-ltb a n lt) in let p = pow_below a n lt in omega arith)
    (λ ge. let e = cond-false (ltb a n) (2 ^ a) 0 (le-ltb a n ge) in let p = pow_pos n in omega arith)
    (cases_lt a n)

kept_bit : (w a n : ℕ) → has (kept w a n) n ≡ has w n
kept_bit w a n = ap (λ q. eqb (q % 2) 1) (div-mul-add (w / 2 ^ n) (2 ^ n) (low a n) (low_below a n))

bit_clear : (w a : ℕ) → has w a ≡ false → (w / 2 ^ a) % 2 ≡ 0
bit_clear w a h =
    let lt = mod_below (w / 2 ^ a) 2 (omega arith) in
    let ne = eqb-false ((w / 2 ^ a) % 2) 1 h in
    omega arith

module _ (w a : ℕ) (stands : has w a ≡ true) where
  kept_goes : (n : ℕ) → goes w a n ≡ true → kept w a n - 2 ^ n ≡ kept w a (suc n)
  kept_goes n h =
      let p = and_parts (has w n) (not (eqb n a)) h in
      let bit = ap (λ m. m * 2 ^ n) (eqb-true ((w / 2 ^ n) % 2) 1 p.0) in
      let l = low_same a n (eqb-false n a (not-true (eqb n a) p.1)) in
      omega (arith, high_step w n, bit, l)

  kept_stays : (n : ℕ) → goes w a n ≡ false → kept w a n ≡ kept w a (suc n)
  kept_stays n h =
      ⊎_elim
      (λ e. let bit = ap (λ m. m * 2 ^ n) (eqb-true ((w / 2 ^ n) % 2) 1 (ap (λ k. has w k) e ∙ stands)) in
      let l = low_at a in
      let l0 : low a n ≡ 0 = ap (λ k. low a k) e ∙ l.0 in
      let l1 : low a (suc n) ≡ 2 ^ n = ap (λ k. low a (suc k)) e ∙ l.1 ∙ ap (λ k. 2 ^ k) (sym e) in
      omega (arith, high_step w n, bit, l0, l1))
      (λ ne. let clear : has w n ≡ false = ⊎_elim (λ z. z) (λ z. absurd (both_ways (eqb n a) (ne_eqb n a ne) (not-false (eqb n a) z))) (and_cases (has w n) (not (eqb n a)) h) in
      let bit = ap (λ m. m * 2 ^ n) (bit_clear w n clear) in
      let l = low_same a n ne in
      omega (arith, high_step w n, bit, l))
      (cases_eq n a)

  kept_last : w < 2 ^ option_limit → kept w a option_limit ≡ 2 ^ a
  kept_last lt =
      let z : w / 2 ^ option_limit < 1 = div_below w (2 ^ option_limit) 1 (omega arith) (omega arith) in
      let l = cond-true (ltb a option_limit) (2 ^ a) 0 (lt-ltb a option_limit (has_below option_limit w a lt (T_yes (has w a) stands))) in
      omega arith

module _ (rules : List Rule) (ds : List Decision) (x a : ℕ) (force : InForce ds (decision.Choose x a)) (sets : List ℕ) (here : T (part sets x a)) where
  stands : part sets x a ≡ true
  stands = yes_T (part sets x a) here

  abbrev after : ℕ → List ℕ
  after n = set sets x (kept (get_or sets x 0) a n)

  read : (v : ℕ) → get_or (set sets x v) x 0 ≡ v
  read v = get_or-set_same sets x v 0 (is_field sets x a here)

  one_more : (n : ℕ) → goes (get_or sets x 0) a n ≡ true → Struck rules ds (after n) (chosen_out x a n ∷ []) (after (suc n))
  one_more n t =
      let w : ℕ = get_or sets x 0 in
      let p = and_parts (has w n) (not (eqb n a)) t in (
        T_yes _ (ap (λ v. has v n) (read (kept w a n)) ∙ kept_bit w a n ∙ p.0),
        (
          (force, ap (λ z. cond z (eqb n a) true) (eq-eqb x x refl) ∙ not-true (eqb n a) p.1),
          sym (set-set sets x (kept w a n) _ ∙ ap (λ u. set sets x (u - 2 ^ n)) (read (kept w a n)) ∙ ap (λ v. set sets x v) (kept_goes w a stands n t)),
        ),
      )

  chosen_struck : (n : ℕ) → Struck rules ds sets (strikes_below n (get_or sets x 0) x a) (after n)
  chosen_struck zero =
      let w : ℕ = get_or sets x 0 in
      let none = cond-false (ltb a 0) (2 ^ a) 0 (le-ltb a 0 (omega arith)) in
      let whole : kept w a 0 ≡ w = omega arith in
      subst (λ ss. Struck rules ds sets ss (after 0)) (sym (below_none w x a)) (ap (λ v. set sets x v) whole ∙ set-get_or sets x 0)
  chosen_struck (suc n) =
      let w : ℕ = get_or sets x 0 in
      ⊎_elim
      (λ t. subst (λ ss. Struck rules ds sets ss (after (suc n))) (sym (below_goes w x a n t))
      (struck_append rules ds sets (strikes_below n w x a) (chosen_out x a n ∷ []) (after n) (after (suc n)) (chosen_struck n) (one_more n t)))
      (λ t. subst (λ ss. Struck rules ds sets ss (after (suc n))) (sym (below_stays w x a n t))
      (subst (λ v. Struck rules ds sets (strikes_below n w x a) (set sets x v)) (kept_stays w a stands n t) (chosen_struck n)))
      (cases_Bool (goes w a n))

  pub choose_struck : get_or sets x 0 < 2 ^ option_limit → Struck rules ds sets (choose_strikes (get_or sets x 0) x a) (set sets x (2 ^ a))
  choose_struck fit =
      subst (λ v. Struck rules ds sets (choose_strikes (get_or sets x 0) x a) (set sets x v)) (kept_last (get_or sets x 0) a stands fit) (chosen_struck option_limit)
