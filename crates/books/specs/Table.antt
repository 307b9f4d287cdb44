-- Rules by tables: one row of a rule for each option of its left field, a set of options of its right field.
use Rattle.std.specs.Prelude.{ℕ, suc, ◌+◌, ◌*◌, ◌&&◌, List, [], ◌∷◌, nat_lt, slice_index}
use Rattle.network.specs.Network.{option_limit, has, Rule}
use Rattle.network.specs.declared.rules.Ends.{Ends}

-- row a of rule r; a missing row is empty
abbrev pub row_of : List ℕ → ℕ → ℕ → ℕ
row_of rows r a = slice_index rows (r * option_limit + a)

-- rule r: option b is in the row of option a
abbrev pub table_rule : List ℕ → ℕ → Ends → Rule
table_rule rows r ends = record { left = ends.left; right = ends.right; allows = λ a b. nat_lt a option_limit && has (row_of rows r a) b }

-- the rules from number r on
abbrev pub table_rules_from : ℕ → List Ends → List ℕ → List Rule
table_rules_from r [] rows = []
table_rules_from r (ends ∷ more) rows = table_rule rows r ends ∷ table_rules_from (suc r) more rows

abbrev pub table_rules : List Ends → List ℕ → List Rule
table_rules = table_rules_from 0
