-- How a probe comes out.
use Rattle.std.specs.Prelude.{◌≡◌, ℕ, Bool, true, false, T, List, length, Ok, Err, Result}
use Rattle.network.specs.Network.{Rule, part}
use Rattle.propagation.specs.Opening.{IsWipedOut}
use Rattle.propagation.specs.Progress.{SettledOn}
use Rattle.tightening.specs.declared.outcome.Emptied.{Emptied}

-- an option of the first sets is not in the last
abbrev pub LostOne : List ℕ → List ℕ → Type 0
LostOne first last = (y : ℕ) × ((b : ℕ) × (T (part first y b) × (T (part last y b) → ⊥)))

-- the largest arc-consistent part of the first sets has an empty field; or the last sets are that part, and nothing or something was lost
abbrev pub Tried : List Rule → List ℕ → List ℕ → Result Bool Emptied → Type 0
Tried rules first last (Err _) = IsWipedOut rules (length first) (part first)
Tried rules first last (Ok false) = SettledOn rules first last × (last ≡ first)
Tried rules first last (Ok true) = SettledOn rules first last × LostOne first last
