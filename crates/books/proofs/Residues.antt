-- What is told has a residue.
use Rattle.std.proofs.Common.{ℕ, List, Some, None, Option}
use Rattle.network.specs.Network.{Rule}
use Rattle.network.specs.declared.rules.Side.{Side}
use Rattle.books.specs.Reads.{Partner}
use Rattle.books.specs.Residues.{InTable}
use Rattle.books.proofs.Asked.{allowed_range}

pub told_in_table : (rules : List Rule) (side : Side) (r a w : ℕ) (answer : Option ℕ) → Partner rules side r a w answer → InTable r a answer
told_in_table rules side r a w (Some b) f = let i = allowed_range rules side r a b f.1 in (i.rule, (i.own, i.other))
told_in_table rules side r a w None f = tt
