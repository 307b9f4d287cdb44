-- A search for an element that passes a test.
use Rattle.std.proofs.Common.{◌≡◌, ℕ, zero, suc, ◌+◌, ◌<◌, Bool, true, false, ◌||◌, List, [], ◌∷◌, length, get_or, drop, sym, refl, ap, ◌∙◌, arith}
use Rattle.std.specs.List.{list_any, range_with_len}
use Rattle.std.proofs.lemmas.List.{drop_more}
use Rattle.std.proofs.lemmas.Bool.{or_parts, or_from}
use Rattle.propagation.specs.Refusals.{any}

module _ {X : Type 0} (test : X → Bool) (xs : List X) (i : ℕ) (d : X) (in_range : i < length xs) where
  split : any test (drop i xs) ≡ (test (get_or xs i d) || any test (drop (i + 1) xs))
  split = ap (any test) (drop_more xs i d in_range)

  -- it passes, and the search is over
  pub any_here : test (get_or xs i d) ≡ true → any test (drop i xs) ≡ any test xs → true ≡ any test xs
  any_here h so_far = sym (split ∙ ap (λ t. t || any test (drop (i + 1) xs)) h) ∙ so_far

  -- it does not pass, and the search goes on
  pub any_next : test (get_or xs i d) ≡ false → any test (drop i xs) ≡ any test xs → any test (drop (i + 1) xs) ≡ any test xs
  any_next h so_far = sym (split ∙ ap (λ t. t || any test (drop (i + 1) xs)) h) ∙ so_far

module _ {X : Type 0} (test : X → Bool) (d : X) where
  -- none passes
  pub none_passes : (xs : List X) → ((i : ℕ) → i < length xs → test (get_or xs i d) ≡ false) → any test xs ≡ false
  none_passes [] h = refl
  none_passes (x ∷ xs) h = or_from (test x) (any test xs) (h 0 (omega arith)) (none_passes xs (λ i lt. h (suc i) (omega arith)))

  pub each_fails : (xs : List X) → any test xs ≡ false → (i : ℕ) → i < length xs → test (get_or xs i d) ≡ false
  each_fails [] h i lt = absurd (omega arith)
  each_fails (x ∷ xs) h zero lt = (or_parts (test x) (any test xs) h).0
  each_fails (x ∷ xs) h (suc i) lt = each_fails xs (or_parts (test x) (any test xs) h).1 i (omega arith)

-- a search by index
pub any_by_index : {X : Type 0} (test : X → Bool) (at : ℕ → X) (d : X) (xs : List X) (a : ℕ) → ((i : ℕ) → i < length xs → at (a + i) ≡ get_or xs i d) → list_any (λ i. test (at i)) (range_with_len a (length xs)) ≡ any test xs
any_by_index test at d [] a h = refl
any_by_index test at d (x ∷ xs) a h =
    let here : a ≡ a + 0 = omega arith in
    let first : at a ≡ x = ap at here ∙ h 0 (omega arith) in
    let next = λ (i : ℕ) (lt : i < length xs). let e : a + 1 + i ≡ a + suc i = omega arith in ap at e ∙ h (suc i) (omega arith) in
    ap (λ v. test v || list_any (λ i. test (at i)) (range_with_len (a + 1) (length xs))) first ∙ ap (λ b. test x || b) (any_by_index test at d xs (a + 1) next)
