-- A list in two parts, the front that is entered and the rest that is free.
use Rattle.std.proofs.Common.{◌≡◌, ℕ, zero, suc, ◌+◌, ◌<◌, ◌≤◌, min, Bool, true, cond, ltb, ◌⊎◌, List, [], ◌∷◌, ◌++◌, length, take, drop, set, replicate, sym, refl, ap, ◌∙◌, inl, inr, arith}
use Rattle.catalogue.specs.Lent.{Places, added, extended, replaced}
use Rattle.std.proofs.lemmas.List.{drop-set-lt, drop-drop, take_all, append_assoc, replicate_more, length-drop, set_past}
use Rattle.std.proofs.lemmas.Bool.{cases_lt, lt-ltb, cond-true}

-- the free places after one more was filled
pub free_next : {X : Type 0} (xs : List X) (n : ℕ) (v : X) → drop (n + 1) (set xs n v) ≡ drop 1 (drop n xs)
free_next xs n v = drop-set-lt (n + 1) xs n v (omega arith) ∙ sym (drop-drop 1 n xs)

-- a change within the front
pub take_set : {X : Type 0} (xs : List X) (n i : ℕ) (v : X) → i < n → take n (set xs i v) ≡ set (take n xs) i v
take_set [] zero i v h = refl
take_set [] (suc n) i v h = refl
take_set (x ∷ xs) zero i v h = absurd (omega arith)
take_set (x ∷ xs) (suc n) zero v h = refl
take_set (x ∷ xs) (suc n) (suc i) v h = ap (λ l. x ∷ l) (take_set xs n i v (omega arith))

-- one more copy behind some copies
pub copies_more : {X : Type 0} (xs : List X) (n : ℕ) (v : X) → (xs ++ replicate n v) ++ v ∷ [] ≡ xs ++ replicate (n + 1) v
copies_more xs n v = append_assoc xs (replicate n v) (v ∷ []) ∙ ap (λ l. xs ++ l) (replicate_more n v)

-- equal parts make equal places
pub same_places : {X : Type 0} {e e' f f' : List X} → e ≡ e' → f ≡ f' → ◌≡◌ {A = Places X} (record { entered = e; free = f }) (record { entered = e'; free = f' })
same_places {X} {e} {e'} {f} {f'} p q =
    let F : List X → List X → Places X = λ x y. record { entered = x; free = y } in
    ap (λ x. F x f) p ∙ ap (F e') q

-- a value was entered behind i copies of it
pub extended_more : {X : Type 0} (first before after : Places X) (i : ℕ) (v : X) (y : Bool) → before ≡ extended first i v → i < length first.free → y ≡ ltb 0 (length before.free) → after ≡ cond y (added before v) before → after ≡ extended first (i + 1) v
extended_more first before after i v y so_far room answer made =
    let done : y ≡ true = answer ∙ lt-ltb 0 (length before.free) (omega (arith, ap (λ p. length p.free) so_far, length-drop i first.free)) in
    made ∙ cond-true y (added before v) before done ∙ ap (λ p. added p v) so_far ∙ same_places (copies_more first.entered i v) (drop-drop 1 i first.free)

-- places that lie past the end are all alike
pub replaced_at : {X : Type 0} (p : Places X) (i j : ℕ) (x : X) → (i ≡ j) ⊎ ((length p.entered ≤ i) × (length p.entered ≤ j)) → replaced p i x ≡ replaced p j x
replaced_at p i j x (inl e) = ap (λ k. replaced p k x) e
replaced_at p i j x (inr h) = same_places (set_past p.entered i x h.0 ∙ sym (set_past p.entered j x h.1)) refl
