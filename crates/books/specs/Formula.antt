-- Rules by a formula on the difference of their two options, the left one less the right one.
use Rattle.std.specs.Prelude.{ℕ, Bool, false, not, ◌&&◌, List, map, ℤ, pos, ◌+ℤ◌, ◌-ℤ◌, int_le, unsigned_abs}
use Rattle.network.specs.Network.{Rule}
use Rattle.network.specs.declared.rules.Kind.{Kind}
use Rattle.network.specs.declared.rules.Kind.TheVariants.{Equal, Different, AtMost, Apart, Unknown}
use Rattle.network.specs.declared.rules.FormulaRule.{FormulaRule}
use Rattle.network.specs.declared.rules.Side.{Side}
use Rattle.network.specs.declared.rules.Side.TheVariants.{Left, Right}

-- two whole numbers are the same
abbrev pub eqZ : ℤ → ℤ → Bool
eqZ i j = int_le i j && int_le j i

-- a kind allows a difference, against the number of the rule
abbrev pub fulfils : Kind → ℤ → ℤ → Bool
fulfils Equal number difference = eqZ difference number
fulfils Different number difference = not (eqZ difference number)
fulfils AtMost number difference = int_le difference number
fulfils Apart number difference = int_le number (pos (unsigned_abs difference))
fulfils Unknown number difference = false

abbrev pub formula_rule : FormulaRule → Rule
formula_rule f = record { left = f.left; right = f.right; allows = λ a b. fulfils f.kind f.difference (pos a -ℤ pos b) }

abbrev pub formula_rules : List FormulaRule → List Rule
formula_rules = map formula_rule

-- the difference, left less right, of option a on a side and option b across
abbrev pub difference_on : Side → ℕ → ℕ → ℤ
difference_on Left a b = pos a -ℤ pos b
difference_on Right a b = pos b -ℤ pos a

-- the number across whose difference with option a on a side is the given one
abbrev pub meeting_on : Side → ℕ → ℤ → ℤ
meeting_on Left a difference = pos a -ℤ difference
meeting_on Right a difference = pos a +ℤ difference

-- option b across has no greater difference than the number there
abbrev pub before_on : Side → ℤ → ℕ → Bool
before_on Left number b = int_le number (pos b)
before_on Right number b = int_le (pos b) number
