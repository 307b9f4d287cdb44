-- The rules of one book, then those of another.
use Rattle.std.specs.Prelude.{List, Some, None, Option}
use Rattle.network.specs.Network.{Rule, no_rule}
use Rattle.books.specs.Reads.{asked}
use Rattle.books.specs.declared.joined.Place.{Place}
use Rattle.books.specs.declared.joined.Place.TheVariants.{First, Second}

-- the rule at a place of two lists
abbrev pub placed_rule : List Rule → List Rule → Option Place → Rule
placed_rule xs ys (Some (First r)) = asked xs r
placed_rule xs ys (Some (Second r)) = asked ys r
placed_rule xs ys None = no_rule
