-- Numbers by their urgency.
use Rattle.std.proofs.Common.{◌≡◌, ◌≢◌, ℕ, zero, suc, ◌<◌, true, false, cond, eqb, ◌⊎◌, List, [], ◌∷◌, ◌++◌, drop, is_some, Some, None, Option, sym, refl, ap, ◌∙◌, subst, inl, inr, arith}
use Rattle.std.proofs.lemmas.Bool.{cases_eq, eq-eqb, ne_eqb, eqb-true, both_ways, cases_Bool}
use Rattle.agenda.specs.Waiting.{number_limit, Same, with_one, without}
use Rattle.agenda.specs.Sequence.{first_of, rising}
use Rattle.agenda.specs.Urgent.{Urgencies, any_urgency, is_at, urgent, by_urgency, in_order, urgency_limit, Foremost, dropped}
use Rattle.agenda.proofs.Risings.{first_stays, rising_same, rising_found, rising_some, rising_rest}

pub is_at_true : (o : Option ℕ) (v : ℕ) → is_at o v ≡ true → o ≡ Some v
is_at_true None v e = cc
is_at_true (Some x) v e = ap Some (eqb-true x v e)

pub at_some : (o : Option ℕ) (v : ℕ) → o ≡ Some v → is_at o v ≡ true
at_some o v e = rw e (eq-eqb v v refl)

pub some_is : (o : Option ℕ) → is_some o ≡ true → (n : ℕ) × (o ≡ Some n)
some_is None e = cc
some_is (Some n) e = (n, refl)

-- the urgency of n becomes o, and no other changes
module _ (u u' : Urgencies) (n : ℕ) (o : Option ℕ) (is : (k : ℕ) → u' k ≡ cond (eqb k n) o (u k)) where
  -- urgencies that n neither had nor has keep their numbers
  pub others_keep : (x : ℕ) → is_at o x ≡ false → is_at (u n) x ≡ false → Same (urgent u x) (urgent u' x)
  others_keep x new old k = elim (cases_eq k n) [ inl e ↦ rw (e, is n, eq-eqb n n refl, new, old) | inr ne ↦ rw (is k, ne_eqb k n ne) ]

  -- the new urgency of n has it
  pub new_has : (v : ℕ) → o ≡ Some v → Same (with_one (urgent u v) n) (urgent u' v)
  new_has v to k = elim (cases_eq k n) [ inl e ↦ rw (e, is n, eq-eqb n n refl, to, eq-eqb v v refl) | inr ne ↦ rw (is k, ne_eqb k n ne) ]

  -- the old one does not, where n waits no longer
  pub old_lacks : (v : ℕ) → o ≡ None → Same (without (urgent u v) n) (urgent u' v)
  old_lacks v to k = elim (cases_eq k n) [ inl e ↦ rw (e, is n, eq-eqb n n refl, to) | inr ne ↦ rw (is k, ne_eqb k n ne) ]

  -- what waits then
  pub waits_dropped : o ≡ None → Same (without (any_urgency u) n) (any_urgency u')
  waits_dropped none k = elim (cases_eq k n) [ inl e ↦ rw (e, is n, eq-eqb n n refl, none) | inr ne ↦ rw (is k, ne_eqb k n ne) ]

-- the sequence begins with the first number of the lowest urgency that has one
pub order_none : (u : Urgencies) (m : ℕ) → ((v : ℕ) → v < m → rising (urgent u v) number_limit ≡ []) → by_urgency u m ≡ []
unfolding by_urgency
order_none u zero none = refl
order_none u (suc m) none = rw (order_none u m (λ v h. none v (omega arith)), none m (omega arith))

pub order_first : (u : Urgencies) (v n m : ℕ) → v < m → ((x : ℕ) → x < v → rising (urgent u x) number_limit ≡ []) →
    first_of (rising (urgent u v) number_limit) ≡ Some n → first_of (by_urgency u m) ≡ Some n
unfolding by_urgency
order_first u v n zero lt none first = absurd (omega arith)
order_first u v n (suc m) lt none first =
    elim (cases_eq v m) [
      | inl e ↦ subst (λ x. first_of (by_urgency u x ++ rising (urgent u x) number_limit) ≡ Some n) e (rw (order_none u v none) first)
      | inr ne ↦ first_stays (by_urgency u m) (rising (urgent u m) number_limit) n (order_first u v n m (omega arith) none first)
    ]

pub none_left : (o : Option ℕ) → ((x : ℕ) → o ≡ Some x → ⊥) → o ≡ None
none_left None never = refl
none_left (Some x) never = absurd (never x refl)

-- a number that does not wait is not dropped
pub dropped_nothing : (u : Urgencies) (n : ℕ) → ((x : ℕ) → u n ≡ Some x → ⊥) → (k : ℕ) → u k ≡ dropped u n k
dropped_nothing u n never k =
    elim (cases_eq k n) [ inl e ↦ rw (e, eq-eqb n n refl) (none_left (u n) never) | inr ne ↦ rw (ne_eqb k n ne) ]

first_cases : (ns : List ℕ) → (ns ≡ []) ⊎ ((n : ℕ) × (first_of ns ≡ Some n))
first_cases [] = inl refl
first_cases (n ∷ ns) = inr (n, refl)

-- the first of the sequence is the first number of the lowest urgency that has one
abbrev Lowest : Urgencies → ℕ → Option ℕ → Type 0
Lowest u m None = (v : ℕ) → v < m → rising (urgent u v) number_limit ≡ []
Lowest u m (Some n) = (v : ℕ) × (v < m) × ((x : ℕ) → x < v → rising (urgent u x) number_limit ≡ []) × (first_of (rising (urgent u v) number_limit) ≡ Some n)

lowest : (u : Urgencies) (m : ℕ) → Lowest u m (first_of (by_urgency u m))
unfolding by_urgency
lowest u zero = λ v h. absurd (omega arith)
lowest u (suc m) =
    elim (by_urgency u m) as (λ ns. Lowest u m (first_of ns) → Lowest u (suc m) (first_of (ns ++ rising (urgent u m) number_limit))) [
      | [] ↦ λ none. elim (first_cases (rising (urgent u m) number_limit)) [
        | inl empty ↦ rw empty (λ v h. grind (arith, none v))
        | inr (n, first) ↦ rw first (m, omega arith, none, first)
      ]
      | n ∷ ns ↦ λ low. (low.0, omega arith, low.2, low.3)
    ] (lowest u m)

-- numbers and urgencies are below their limits
abbrev pub Within : Urgencies → Type 0
Within u = (k v : ℕ) → u k ≡ Some v → (k < number_limit) × (v < urgency_limit)

-- the first of the sequence waits, and where the sequence is empty nothing does
pub foremost_waits : (u : Urgencies) → Within u → Foremost u (first_of (in_order u))
foremost_waits u within = waits (first_of (in_order u)) (lowest u urgency_limit)
  where
    waits : (o : Option ℕ) → Lowest u urgency_limit o → Foremost u o
    waits None none =
        λ k. elim (cases_Bool (is_some (u k))) [
          | inl on ↦
              let (v, e) = some_is (u k) on in
              absurd (both_ways (is_some (first_of (rising (urgent u v) number_limit))) (rw (none v (within k v e).1)) (rising_some (urgent u v) number_limit k (within k v e).0 (at_some (u k) v e)))
          | inr off ↦ off
        ]
    waits (Some n) (v, lt, none, first) = let there = rising_found (urgent u v) number_limit n first in (there.1, ap is_some (is_at_true (u n) v there.0))

-- without its first number, the sequence goes on
module _ (u u' : Urgencies) (n v : ℕ) (is : (k : ℕ) → u' k ≡ dropped u n k) (on : u n ≡ Some v)
    (none : (x : ℕ) → x < v → rising (urgent u x) number_limit ≡ []) (first : first_of (rising (urgent u v) number_limit) ≡ Some n) where
  elsewhere : (x : ℕ) → x ≢ v → rising (urgent u' x) number_limit ≡ rising (urgent u x) number_limit
  elsewhere x ne =
      rising_same (urgent u x) (urgent u' x) number_limit
      (others_keep u u' n None is x refl (rw on (ne_eqb v x (λ e. ne (sym e)))))

  goes_on : (m : ℕ) → v < m → by_urgency u m ≡ n ∷ by_urgency u' m
  unfolding by_urgency
  goes_on zero lt = absurd (omega arith)
  goes_on (suc m) lt =
      elim (cases_eq m v) [
        | inl e ↦
            let there = rising_found (urgent u v) number_limit n first in
            let none' : (x : ℕ) → x < v → rising (urgent u' x) number_limit ≡ [] = λ x h. elsewhere x (λ s. omega arith) ∙ none x h in
            rw (e, order_none u v none, order_none u' v none') (rising_rest (urgent u v) (urgent u' v) n number_limit there.1 there.0 there.2 (old_lacks u u' n None is v refl))
        | inr ne ↦ rw (goes_on m (omega arith), elsewhere m ne)
      ]

pub order_rest : (u u' : Urgencies) (n : ℕ) → ((k : ℕ) → u' k ≡ dropped u n k) → first_of (in_order u) ≡ Some n → in_order u' ≡ drop 1 (in_order u)
order_rest u u' n is first =
    let low = subst (Lowest u urgency_limit) first (lowest u urgency_limit) in
    let there = rising_found (urgent u low.0) number_limit n low.3 in
    sym (ap (drop 1) (goes_on u u' n low.0 is (is_at_true (u n) low.0 there.0) low.2 low.3 urgency_limit low.1))
