-- The numbers of a set, rising, and the first of them.
use Rattle.std.proofs.Common.{◌≡◌, ℕ, zero, suc, ◌<◌, true, false, cond, List, [], ◌∷◌, ◌++◌, is_some, Some, None, Option, refl, subst, inl, inr, arith}
use Rattle.std.proofs.lemmas.Bool.{cases_eq, cases_Bool}
use Rattle.std.proofs.lemmas.Bool.Decides.{nat_tests}
use Rattle.agenda.specs.Waiting.{Waiting, Same, without}
use Rattle.agenda.specs.Sequence.{first_of, rising}

pub first_stays : (xs ys : List ℕ) (n : ℕ) → first_of xs ≡ Some n → first_of (xs ++ ys) ≡ Some n
first_stays [] ys n e = cc
first_stays (x ∷ xs) ys n e = e

pub rising_none : (w : Waiting) (n : ℕ) → ((k : ℕ) → k < n → w k ≡ false) → rising w n ≡ []
unfolding rising
rising_none w zero none = refl
rising_none w (suc n) none = rw (rising_none w n (λ k h. none k (omega arith)), none n (omega arith))

pub rising_same : (w w' : Waiting) (n : ℕ) → ((k : ℕ) → w' k ≡ w k) → rising w' n ≡ rising w n
unfolding rising
rising_same w w' zero same = refl
rising_same w w' (suc n) same = rw (rising_same w w' n same, same n)

-- the least number of a set below m, none where it has none there
abbrev pub Least : Waiting → ℕ → Option ℕ → Type 0
Least w m None = (k : ℕ) → k < m → w k ≡ false
Least w m (Some n) = (w n ≡ true) × (n < m) × ((k : ℕ) → k < n → w k ≡ false)

pub least : (w : Waiting) (m : ℕ) → Least w m (first_of (rising w m))
unfolding rising
least w zero = λ k h. absurd (omega arith)
least w (suc m) =
    elim (rising w m) as (λ ns. Least w m (first_of ns) → Least w (suc m) (first_of (ns ++ cond (w m) (m ∷ []) []))) [
      | [] ↦ λ none. elim (cases_Bool (w m)) [
        | inl on ↦ rw on (on, omega arith, none)
        | inr off ↦ rw off (λ k h. grind (arith, none k))
      ]
      | n ∷ ns ↦ λ low. (low.0, omega arith, low.2)
    ] (least w m)

is_least : (w : Waiting) (n m : ℕ) (o : Option ℕ) → n < m → w n ≡ true → ((k : ℕ) → k < n → w k ≡ false) → Least w m o → o ≡ Some n
is_least w n m None lt on before none = grind (arith, none n)
is_least w n m (Some j) lt on before low = grind (arith, nat_tests, before j, low.2 n)

pub rising_first : (w : Waiting) (n m : ℕ) → n < m → w n ≡ true → ((k : ℕ) → k < n → w k ≡ false) → first_of (rising w m) ≡ Some n
rising_first w n m lt on before = is_least w n m (first_of (rising w m)) lt on before (least w m)

module _ (w : Waiting) (m : ℕ) where
  -- what the first number of a set says of the others
  pub rising_found : (n : ℕ) → first_of (rising w m) ≡ Some n → Least w m (Some n)
  rising_found n e = subst (Least w m) e (least w m)

  pub rising_empty : first_of (rising w m) ≡ None → Least w m None
  rising_empty e = subst (Least w m) e (least w m)

  -- a set with a number has a first
  pub rising_some : (n : ℕ) → n < m → w n ≡ true → is_some (first_of (rising w m)) ≡ true
  rising_some n lt here = some (first_of (rising w m)) (least w m)
    where
      some : (o : Option ℕ) → Least w m o → is_some o ≡ true
      some None none = grind (arith, none n)
      some (Some j) low = refl

-- the first number taken out of a set
pub rising_rest : (w w' : Waiting) (n m : ℕ) → n < m → w n ≡ true → ((k : ℕ) → k < n → w k ≡ false) → Same (without w n) w' → rising w m ≡ n ∷ rising w' m
unfolding rising
rising_rest w w' n zero lt on none out = absurd (omega arith)
rising_rest w w' n (suc m) lt on none out =
    elim (cases_eq n m) [
      | inl e ↦
          let none' : (k : ℕ) → k < n → w' k ≡ false = λ k h. grind (arith, nat_tests, out k, none k) in
          let off : w' n ≡ false = grind (arith, nat_tests, out n) in
          rw (← e, rising_none w n none, rising_none w' n none', on, off)
      | inr ne ↦
          let other : w' m ≡ w m = grind (arith, nat_tests, out m) in
          rw (rising_rest w w' n m (omega arith) on none out, other)
    ]
