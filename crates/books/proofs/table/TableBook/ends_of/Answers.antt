use Rattle.std.proofs.Common.{sym, ap, ◌∙◌}
use Rattle.std.specs.Option.{option_map_or}
use Rattle.network.specs.Network.{no_rule, words}
use Rattle.books.specs.Table.{table_rule}
use Rattle.books.proofs.Tables.{asked_table}
use Rattle.books.proofs.table.TableBook.ends_of.Goals as goal

pub returns : goal.returns
returns c =
    let rows = words c.args.self.now.rows.now in
    asked_table c.args.self.now.ends.now rows c.args.rule ∙ ap (λ o. option_map_or (table_rule rows c.args.rule) o no_rule) (sym c.rule_entry.ensures)
