-- A list of the ends of the rules.
use Rattle.std.proofs.Common.{◌≡◌, ℕ, ◌<◌, ◌≤◌, List, length, get_or, take, ap, ◌∙◌, arith}
use Rattle.std.proofs.lemmas.List.{get_or-take, length-take-le}
use Rattle.network.specs.Network.{Rule, rule_at}
use Rattle.network.specs.declared.rules.Ends.{Ends}
use Rattle.network.specs.declared.rules.Side.{Side}
use Rattle.network.specs.declared.rules.Side.TheVariants.{Left, Right}
use Rattle.propagation.specs.Arcs.{no_ends, own, across, listed_own, listed_across, Listed}

module _ (rules : List Rule) (n : ℕ) (table : List Ends) (is : n ≡ length rules) (wide : length rules ≤ length table)
    (known : (r : ℕ) → r < length rules → ((get_or table r no_ends).left ≡ (rule_at rules r).left) × ((get_or table r no_ends).right ≡ (rule_at rules r).right)) where
  read : (r : ℕ) → r < length rules → get_or (take n table) r no_ends ≡ get_or table r no_ends
  read r lt = get_or-take n table r no_ends (omega arith)

  own_is : (r : ℕ) (side : Side) → r < length rules → listed_own (take n table) side r ≡ own rules side r
  own_is r Left lt = ap (λ e. e.left) (read r lt) ∙ (known r lt).0
  own_is r Right lt = ap (λ e. e.right) (read r lt) ∙ (known r lt).1

  across_is : (r : ℕ) (side : Side) → r < length rules → listed_across (take n table) side r ≡ across rules side r
  across_is r Left lt = ap (λ e. e.right) (read r lt) ∙ (known r lt).1
  across_is r Right lt = ap (λ e. e.left) (read r lt) ∙ (known r lt).0

  pub listed_by : Listed rules (take n table)
  listed_by = record { count = length-take-le n table (omega arith) ∙ is; own = own_is; across = across_is }
