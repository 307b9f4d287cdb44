-- Numbers in a ring of places.
use Rattle.std.proofs.Common.{◌≡◌, ℕ, zero, suc, ◌+◌, ◌-◌, ◌%◌, ◌<◌, List, [], ◌∷◌, ◌++◌, length, get_or, set, refl, ap, ◌∙◌, add-one, arith}
use Rattle.std.proofs.lemmas.List.{get_or-set_same, get_or-set_other}
use Rattle.agenda.specs.Ring.{around}

pub length_around : (ps : List ℕ) (from n : ℕ) → length (around ps from n) ≡ n
unfolding around
length_around ps from zero = refl
length_around ps from (suc n) = ap suc (length_around ps (from + 1) n)

-- one place on is the first place after the last
around_wraps : (ps : List ℕ) (i j n : ℕ) → i % 512 ≡ j % 512 → around ps i n ≡ around ps j n
unfolding around
around_wraps ps i j zero e = refl
around_wraps ps i j (suc n) e =
    let next : (i + 1) % 512 ≡ (j + 1) % 512 = omega arith in
    rw (e, around_wraps ps (i + 1) (j + 1) n next)

around_push : (ps : List ℕ) (from n : ℕ) → around ps from (suc n) ≡ around ps from n ++ get_or ps ((from + n) % 512) 0 ∷ []
unfolding around
around_push ps from zero = let e : from % 512 ≡ (from + 0) % 512 = omega arith in rw e
around_push ps from (suc n) =
    let e : (from + 1 + n) % 512 ≡ (from + suc n) % 512 = omega arith in
    ap (λ l. get_or ps (from % 512) 0 ∷ l) (around_push ps (from + 1) n ∙ ap (λ i. around ps (from + 1) n ++ get_or ps i 0 ∷ []) e)

around_other : (ps : List ℕ) (from n j v : ℕ) → ((i : ℕ) → i < n → (from + i) % 512 ≡ j → ⊥) → around (set ps j v) from n ≡ around ps from n
unfolding around
around_other ps from zero j v other = refl
around_other ps from (suc n) j v other =
    let ne : from % 512 ≡ j → ⊥ = λ e. other 0 (omega arith) (omega arith) in
    rw (get_or-set_other ps j (from % 512) v 0 ne, around_other ps (from + 1) n j v (λ i h e. other (i + 1) (omega arith) (omega arith)))

-- a number written behind the last
pub around_put : (ps : List ℕ) (from n v : ℕ) → length ps ≡ 512 → n < 512 →
    around (set ps ((from + n) % 512) v) from (n + 1) ≡ around ps from n ++ v ∷ []
around_put ps from n v size room =
    let j : ℕ = (from + n) % 512 in
    let within : j < length ps = omega arith in
    ap (around (set ps j v) from) (add-one n)
    ∙ around_push (set ps j v) from n
    ∙ rw (around_other ps from n j v (λ i h e. omega arith), get_or-set_same ps j v 0 within)

-- the first number taken
pub around_take : (ps : List ℕ) (from n : ℕ) → from < 512 → 0 < n → around ps from n ≡ get_or ps from 0 ∷ around ps ((from + 1) % 512) (n - 1)
unfolding around
around_take ps from zero lt some = absurd (omega arith)
around_take ps from (suc n) lt some =
    let here : from % 512 ≡ from = omega arith in
    let less : suc n - 1 ≡ n = omega arith in
    let next : (from + 1) % 512 ≡ (from + 1) % 512 % 512 = omega arith in
    rw (here, less, around_wraps ps (from + 1) ((from + 1) % 512) n next)
