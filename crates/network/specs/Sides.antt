-- The two sides of a rule.
use Rattle.std.specs.Prelude.{ℕ}
use Rattle.network.specs.declared.rules.Side.{Side}
use Rattle.network.specs.declared.rules.Side.TheVariants.{Left, Right}

abbrev pub opposite : Side → Side
opposite Left = Right
opposite Right = Left

-- the number of a side, where things are numbered by side: the left one comes first
abbrev pub side_number : Side → ℕ
side_number Left = 0
side_number Right = 1
