-- Why sets cannot be opened over rules.
use Rattle.std.specs.Prelude.{ℕ, Bool, cond, ◌||◌, List, length, Some, None, Ok, Err, Option, Result, ◌==◌, nat_lt}
use Rattle.std.specs.List.{list_any}
use Rattle.faults.specs.declared.EngineFault.{EngineFault}
use Rattle.faults.specs.declared.EngineFault.TheVariants.{FieldCount, EmptySet, RuleCount, UnfitEnds}
use Rattle.network.specs.Network.{Rule, field_limit, rule_limit, no_fields}

-- whether some element passes a test
abbrev pub any : {X : Type 0} → (X → Bool) → List X → Bool
any = list_any

abbrev pub empty : ℕ → Bool
empty w = w == 0

abbrev pub unfit : ℕ → Rule → Bool
unfit n rule = no_fields n rule.left rule.right

-- the first refusal that fits an opening of set words over rules
abbrev pub opening_refusal : List Rule → List ℕ → Option EngineFault
opening_refusal rules sets =
    cond (length sets == 0 || nat_lt field_limit (length sets)) (Some FieldCount)
    (cond (any empty sets) (Some EmptySet)
    (cond (nat_lt rule_limit (length rules)) (Some RuleCount)
    (cond (any (unfit (length sets)) rules) (Some UnfitEnds) None)))

-- a refusal is the answer; else the check is passed
abbrev pub answer : Option EngineFault → Result (Unit {0}) EngineFault
answer None = Ok tt
answer (Some why) = Err why
