-- Putting struck options back.
use Rattle.std.specs.Prelude.{ℕ, ◌^◌, ◌<◌, List, [], ◌∷◌, slice_index, slice_set}
use Rattle.network.specs.Network.{option_limit}
use Rattle.network.specs.Sets.{set_with}
use Rattle.propagation.specs.declared.record.Strike.{Strike}

-- each set word has its options among those that a field can have
abbrev pub Fit : List ℕ → Type 0
Fit sets = (x : ℕ) → slice_index sets x < 2 ^ option_limit

-- the sets with the option of one strike again
abbrev pub put_one : List ℕ → Strike → List ℕ
put_one sets s = slice_set sets s.field (set_with (slice_index sets s.field) s.option)

-- the sets with the options of all strikes again, the latest put back first
abbrev pub put_all : List ℕ → List Strike → List ℕ
put_all sets [] = sets
put_all sets (s ∷ rest) = put_one (put_all sets rest) s
