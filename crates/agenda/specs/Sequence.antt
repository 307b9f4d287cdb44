-- Sequences of numbers that wait: the first is the next to be taken.
use Rattle.std.specs.Prelude.{ℕ, zero, suc, false, cond, ◌||◌, List, [], ◌∷◌, ◌++◌, Some, None, Option, ◌==◌}
use Rattle.agenda.specs.Waiting.{Waiting}

abbrev pub first_of : List ℕ → Option ℕ
first_of [] = None
first_of (n ∷ ns) = Some n

-- whether a number is in the sequence
abbrev pub among : List ℕ → Waiting
among [] k = false
among (n ∷ ns) k = k == n || among ns k

-- the numbers below n of a set, rising
unfoldable pub rising : Waiting → ℕ → List ℕ
rising w zero = []
rising w (suc n) = rising w n ++ cond (w n) (n ∷ []) []
