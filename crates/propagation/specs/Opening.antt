-- Which sets can be opened over which rules, and what it means that the largest part has an empty field.
use Rattle.std.specs.Prelude.{ℕ, ◌^◌, ◌<◌, ◌≤◌, T, ◌≢◌, List, length, slice_index}
use Rattle.network.specs.Network.{Rule, Part, rule_at, InLargest, Largest, option_limit, field_limit, rule_limit}
use Rattle.network.specs.declared.rules.Side.{Side}
use Rattle.propagation.specs.Strikes.{UnsupportedAt}

-- 1 to 16 fields, none of them empty, and at most 128 rules, each between two different fields
pub record Accepted (rules : List Rule) (sets : List ℕ) : Type 0 where
  pub some : 0 < length sets
  pub few : length sets ≤ field_limit
  pub fit : (x : ℕ) → slice_index sets x < 2 ^ option_limit
  pub filled : (x : ℕ) → x < length sets → 0 < slice_index sets x
  pub rules_few : length rules ≤ rule_limit
  pub left_is_field : (r : ℕ) → r < length rules → (rule_at rules r).left < length sets
  pub right_is_field : (r : ℕ) → r < length rules → (rule_at rules r).right < length sets
  pub ends_differ : (r : ℕ) → r < length rules → (rule_at rules r).left ≢ (rule_at rules r).right

-- field x is empty in the largest arc-consistent part of p
abbrev pub Emptied : List Rule → Part → ℕ → Type 0
Emptied rules p x = (a : ℕ) → InLargest rules p x a → ⊥

-- one of n fields is empty in the largest arc-consistent part of p
abbrev pub IsWipedOut : List Rule → ℕ → Part → Type 0
IsWipedOut rules n p = (x : ℕ) × ((x < n) × Emptied rules p x)

-- rule r is one of field x, under which an option that stood there has no partner in the largest part
abbrev pub Blamed : List Rule → Part → ℕ → ℕ → Type 0
Blamed rules p x r =
    (side : Side) × ((a : ℕ) × ((r < length rules) × (T (p x a) × ((q : Part) → Largest rules p q → UnsupportedAt rules q side r x a))))
