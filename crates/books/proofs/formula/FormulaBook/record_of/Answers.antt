use Rattle.std.proofs.Common.{sym, ap, ◌∙◌}
use Rattle.std.specs.Option.{option_map_or}
use Rattle.network.specs.Network.{no_rule}
use Rattle.books.specs.Formula.{formula_rule}
use Rattle.books.proofs.Asked.{asked_map}
use Rattle.books.proofs.formula.FormulaBook.record_of.Goals as goal

pub returns : goal.returns
returns c = asked_map formula_rule c.args.self.now.rules.now c.args.rule ∙ ap (λ o. option_map_or formula_rule o no_rule) (sym c.rule_entry.ensures)
