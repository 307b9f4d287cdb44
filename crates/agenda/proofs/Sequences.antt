-- Sequences of numbers: which are in them, once each.
use Rattle.std.proofs.Common.{◌≡◌, ℕ, zero, suc, ◌<◌, ◌≤◌, true, false, eqb, List, [], ◌∷◌, ◌++◌, length, drop, refl, ◌∙◌, inl, inr, arith}
use Rattle.std.proofs.lemmas.Bool.{cases_eq, lt-ltb, le-ltb, or_right}
use Rattle.std.proofs.lemmas.Bool.Decides.{nat_tests}
use Rattle.agenda.specs.Waiting.{number_limit, Same, with_one, put_number, Taken, waits}
use Rattle.agenda.specs.Sequence.{first_of, among}
use Rattle.agenda.specs.Ring.{apart}
use Rattle.agenda.specs.Lined.{lined_up}
use Rattle.agenda.proofs.Waits.{waits_with}

pub among_push : (ns : List ℕ) (n k : ℕ) → among (ns ++ n ∷ []) k ≡ with_one (among ns) n k
among_push [] n k = refl
among_push (x ∷ xs) n k = grind (arith, nat_tests, among_push xs n k)

pub apart_push : (ns : List ℕ) (n : ℕ) → apart ns ≡ true → among ns n ≡ false → apart (ns ++ n ∷ []) ≡ true
unfolding apart
apart_push [] n once new = refl
apart_push (x ∷ xs) n once new = grind (arith, nat_tests, among_push xs n x, apart_push xs n)

module _ (ns : List ℕ) (n : ℕ) where
  pub lined_past : number_limit ≤ n → lined_up ns n ≡ ns
  lined_past h = rw (le-ltb n 512 h)

  pub lined_again : among ns n ≡ true → lined_up ns n ≡ ns
  lined_again on = grind (arith, nat_tests)

  pub lined_new : n < number_limit → among ns n ≡ false → lined_up ns n ≡ ns ++ n ∷ []
  lined_new lt off = rw (lt-ltb n 512 lt, off)

  -- what waits once a number was put
  pub lined_waits : Same (put_number (among ns) n) (among (lined_up ns n))
  lined_waits k =
      elim (cases_eq k n) [ inl e ↦ rw e (grind (arith, nat_tests, among_push ns n n)) | inr ne ↦ grind (arith, nat_tests, among_push ns n k) ]

-- what waits once the first was taken
pub first_taken : (ns : List ℕ) → apart ns ≡ true → Taken (among ns) (first_of ns) (among (drop 1 ns))
unfolding apart
first_taken [] once = (λ k. refl, λ k. refl)
first_taken (n ∷ ns) once = (grind (arith, nat_tests), λ k. grind (arith, nat_tests))

pub apart_rest : (ns : List ℕ) → apart ns ≡ true → apart (drop 1 ns) ≡ true
unfolding apart
apart_rest [] once = refl
apart_rest (n ∷ ns) once = grind (arith, nat_tests)

-- numbers below m, once each, are as many as wait
pub waits_length : (ns : List ℕ) (m : ℕ) → apart ns ≡ true → ((k : ℕ) → among ns k ≡ true → k < m) → waits (among ns) m ≡ length ns
unfolding apart waits
waits_length [] m once below = none m
  where
    none : (m : ℕ) → waits (among []) m ≡ 0
    none zero = refl
    none (suc m) = omega (arith, none m)
waits_length (n ∷ ns) m once below =
    let new : among ns n ≡ false = grind (arith, nat_tests) in
    let rest = waits_length ns m (grind (arith, nat_tests)) (λ k h. below k (or_right (eqb k n) (among ns k) h)) in
    waits_with (among ns) (among (n ∷ ns)) n m (below n (grind (arith, nat_tests))) new (λ k. refl) ∙ omega arith
