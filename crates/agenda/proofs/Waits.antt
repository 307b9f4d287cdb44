-- How many numbers wait.
use Rattle.std.proofs.Common.{◌≡◌, ◌≢◌, ℕ, zero, suc, ◌+◌, ◌<◌, ◌≤◌, true, false, refl, inl, inr, arith}
use Rattle.std.proofs.lemmas.Bool.{cases_eq}
use Rattle.std.proofs.lemmas.Bool.Decides.{nat_tests}
use Rattle.agenda.specs.Waiting.{Waiting, Same, with_one, without, waits}

pub waits_le : (w : Waiting) (m : ℕ) → waits w m ≤ m
unfolding waits
waits_le w zero = omega arith
waits_le w (suc m) = grind (arith, nat_tests, waits_le w m)

pub waits_same : (w w' : Waiting) (m : ℕ) → ((k : ℕ) → k < m → w' k ≡ w k) → waits w' m ≡ waits w m
unfolding waits
waits_same w w' zero same = refl
waits_same w w' (suc m) same = rw (same m (omega arith), waits_same w w' m (λ k h. same k (omega arith)))

-- one more waits, and the others as before
waits_more : (w w' : Waiting) (n m : ℕ) → n < m → w n ≡ false → w' n ≡ true → ((k : ℕ) → k ≢ n → w' k ≡ w k) → waits w' m ≡ waits w m + 1
unfolding waits
waits_more w w' n zero lt off on others = absurd (omega arith)
waits_more w w' n (suc m) lt off on others =
    elim (cases_eq m n) [
      | inl e ↦ grind (arith, nat_tests, waits_same w w' m (λ k h. others k (omega arith)))
      | inr ne ↦ rw (others m ne) (omega (arith, waits_more w w' n m (omega arith) off on others))
    ]

-- not all wait where one does not
pub waits_room : (w : Waiting) (n m : ℕ) → n < m → w n ≡ false → waits w m < m
waits_room w n m lt off =
    omega (arith, waits_more w (with_one w n) n m lt off (grind (arith, nat_tests)) (λ k ne. grind (arith, nat_tests)), waits_le (with_one w n) m)

pub waits_with : (w w' : Waiting) (n m : ℕ) → n < m → w n ≡ false → Same (with_one w n) w' → waits w' m ≡ waits w m + 1
waits_with w w' n m lt off after = waits_more w w' n m lt off (grind (arith, nat_tests, after n)) (λ k ne. grind (arith, nat_tests, after k))

pub waits_without : (w w' : Waiting) (n m : ℕ) → n < m → w n ≡ true → Same (without w n) w' → waits w' m + 1 ≡ waits w m
waits_without w w' n m lt on after =
    omega (arith, waits_more w' w n m lt (grind (arith, nat_tests, after n)) on (λ k ne. grind (arith, nat_tests, after k)))
