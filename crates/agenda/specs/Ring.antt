-- Numbers that stand in a ring of places.
use Rattle.std.specs.Prelude.{ℕ, zero, suc, ◌+◌, ◌%◌, Bool, true, not, ◌&&◌, List, [], ◌∷◌, slice_index}
use Rattle.agenda.specs.Waiting.{number_limit}
use Rattle.agenda.specs.Sequence.{among}

-- n numbers from a place on, which go on at the first place after the last
unfoldable pub around : List ℕ → ℕ → ℕ → List ℕ
around places from zero = []
around places from (suc n) = slice_index places (from % number_limit) ∷ around places (from + 1) n

-- no number comes twice
unfoldable pub apart : List ℕ → Bool
apart [] = true
apart (n ∷ ns) = not (among ns n) && apart ns
