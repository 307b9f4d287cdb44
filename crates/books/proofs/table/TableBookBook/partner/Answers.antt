use Rattle.std.proofs.Common.{◌^◌, ◌<◌, ◌&&◌, T, ltb, sym, ap, ◌∙◌, subst, ltb→lt, rules}
use lib.Bits.{bit_and}
use Rattle.network.specs.Network.{option_limit, words}
use Rattle.network.proofs.Truth.{T_yes, T_left, T_right}
use Rattle.books.specs.Table.{table_rule}
use Rattle.books.proofs.Tables.{from_left, from_right}
use Rattle.books.proofs.Partners.{no_partner, partner_by, none_permitted}
use Rattle.books.proofs.table.TableBookBook.partner.Goals as goal

pub returns-in_err-ends-clause-found : goal.returns-in_err-ends-clause-found
returns-in_err-ends-clause-found c = no_partner _ _ _ _ _ c.in_err-ends.ensures _ c.from_residual.ensures

pub returns-in-Left-clause-found : goal.returns-in-Left-clause-found
returns-in-Left-clause-found c =
    let rows = words c.args.self.now.rows.now in
    let rule = table_rule rows c.args.arc.rule c.in_ok-ends.ends in
    let fits : c.args.set.word < 2 ^ option_limit = search rules in
    let both = T_yes (c.are_fields.result && ltb c.args.option option_limit) c.if-are_fields-option.true in
    partner_by _ _ rule c.in_ok-ends.ensures _ _ _ _
    (from_left rows c.args.arc.rule c.in_ok-ends.ends c.args.arc.side c.args.option c.args.set.word fits
    (subst T c.are_fields.ensures (T_left c.are_fields.result _ both)) (ltb→lt c.args.option option_limit (T_right c.are_fields.result _ both))
    c.in-Left.is c.intersection.result.word (c.intersection.ensures ∙ ap (bit_and c.args.set.word) c.row.ensures) c.lowest.result c.lowest.ensures.least)

pub returns-in-Right-clause-found : goal.returns-in-Right-clause-found
returns-in-Right-clause-found c =
    let rows = words c.args.self.now.rows.now in
    let rule = table_rule rows c.args.arc.rule c.in_ok-ends.ends in
    let fits : c.args.set.word < 2 ^ option_limit = search rules in
    let both = T_yes (c.are_fields.result && ltb c.args.option option_limit) c.if-are_fields-option.true in
    partner_by _ _ rule c.in_ok-ends.ensures _ _ _ _
    (from_right rows c.args.arc.rule c.in_ok-ends.ends c.args.arc.side c.args.option c.args.set.word fits
    (subst T c.are_fields.ensures (T_left c.are_fields.result _ both)) (ltb→lt c.args.option option_limit (T_right c.are_fields.result _ both))
    c.in-Right.is c.partner_on_left.result c.partner_on_left.ensures)

pub returns-clause-found : goal.returns-clause-found
returns-clause-found c =
    let rule = table_rule (words c.args.self.now.rows.now) c.args.arc.rule c.in_ok-ends.ends in
    none_permitted _ _ rule c.in_ok-ends.ensures c.args.arc.side c.args.option c.args.set.word (ap (λ f. f && ltb c.args.option option_limit) (sym c.are_fields.ensures) ∙ c.if-are_fields-option.false)
