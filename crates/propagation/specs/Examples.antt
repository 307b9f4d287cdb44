-- Worked examples: the largest arc-consistent part of some sets, under formula rules.
use Rattle.std.specs.Prelude.{◌≡◌, ℕ, ◌+◌, ◌-◌, ◌^◌, List, [], ◌∷◌, ℤ, pos, negsuc}
use Rattle.network.specs.Network.{part, Largest, option_limit}
use Rattle.network.specs.declared.rules.Kind.{Kind}
use Rattle.network.specs.declared.rules.Kind.TheVariants.{Equal, Different, AtMost, Apart}
use Rattle.network.specs.declared.rules.FormulaRule.{FormulaRule}
use Rattle.books.specs.Formula.{formula_rules}
use Rattle.propagation.specs.Strikes.{options}
use Rattle.propagation.specs.Opening.{IsWipedOut}

-- the word of a set of different options
abbrev pub set_of : List ℕ → ℕ
set_of [] = 0
set_of (a ∷ rest) = 2 ^ a + set_of rest

abbrev pub all_options : ℕ
all_options = 2 ^ option_limit - 1

-- a rule on the difference of an option of field x, less one of field y
abbrev pub between : ℕ → ℕ → Kind → ℤ → FormulaRule
between x y kind number = record { left = x; right = y; kind = kind; difference = number }

-- a settle of the first sets, under the rules, leaves the last
abbrev pub Leaves : List FormulaRule → List ℕ → List ℕ → Type 0
Leaves rules first last = Largest (formula_rules rules) (part first) (part last)

abbrev pub zero_one : ℕ
zero_one = set_of (0 ∷ 1 ∷ [])

abbrev pub zero_to_two : ℕ
zero_to_two = set_of (0 ∷ 1 ∷ 2 ∷ [])

pub record SettleExamples : Type 0 where
  -- {5}, no rule: nothing is struck, and one option stands
  pub alone : Leaves [] (set_of (5 ∷ []) ∷ []) (set_of (5 ∷ []) ∷ [])
  pub alone_stands : options (set_of (5 ∷ []) ∷ []) ≡ 1
  -- {0, 1, 2} twice, a - b at most -1
  pub ordered : Leaves (between 0 1 AtMost (negsuc 0) ∷ [])
      (zero_to_two ∷ zero_to_two ∷ [])
      (set_of (0 ∷ 1 ∷ []) ∷ set_of (1 ∷ 2 ∷ []) ∷ [])
  -- {0} and {1}, a - b = 0: the largest part has an empty field
  pub unequal : IsWipedOut (formula_rules (between 0 1 Equal (pos 0) ∷ [])) 2 (part (set_of (0 ∷ []) ∷ set_of (1 ∷ []) ∷ []))
  -- {0, 1, 2} three times, a - b = 1 on the first two and on the last two
  pub stairs : Leaves (between 0 1 Equal (pos 1) ∷ between 1 2 Equal (pos 1) ∷ [])
      (zero_to_two ∷ zero_to_two ∷ zero_to_two ∷ [])
      (set_of (2 ∷ []) ∷ set_of (1 ∷ []) ∷ set_of (0 ∷ []) ∷ [])
  -- {0, 1} three times, each two different: nothing is struck, though no configuration is admissible
  pub triangle : Leaves (between 0 1 Different (pos 0) ∷ between 0 2 Different (pos 0) ∷ between 1 2 Different (pos 0) ∷ [])
      (zero_one ∷ zero_one ∷ zero_one ∷ [])
      (zero_one ∷ zero_one ∷ zero_one ∷ [])
  -- {0, 1} twice, equal by one rule and different by another: nothing is struck, since rules are taken one by one
  pub contrary : Leaves (between 0 1 Equal (pos 0) ∷ between 0 1 Different (pos 0) ∷ [])
      (zero_one ∷ zero_one ∷ [])
      (zero_one ∷ zero_one ∷ [])
  -- all options twice, at least 31 apart
  pub apart : Leaves (between 0 1 Apart (pos 31) ∷ [])
      (all_options ∷ all_options ∷ [])
      (set_of (0 ∷ 31 ∷ []) ∷ set_of (0 ∷ 31 ∷ []) ∷ [])
