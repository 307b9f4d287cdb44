-- Fronts of a line that grows.
use Rattle.std.proofs.Common.{◌≡◌, ℕ, List, [], ◌∷◌, ◌++◌, length, take, sym, ap, ◌∙◌, inl, inr, arith}
use Rattle.std.proofs.lemmas.List.{length-take-le, take_all, take_at, take-append-le}
use Rattle.std.proofs.lemmas.Bool.{cases_lt}

-- one byte more
pub reach_more : (n : ℕ) (line : List ℕ) (b : ℕ) → take n (take n line ++ b ∷ []) ≡ take n (line ++ b ∷ [])
reach_more n line b =
    elim (cases_lt (length line) n) [
      | inl short ↦ ap (λ l. take n (l ++ b ∷ [])) (take_all n line (omega arith))
      | inr long ↦ take_at (take n line) (b ∷ []) n (length-take-le n line long) ∙ sym (take-append-le n line (b ∷ []) long)
    ]
