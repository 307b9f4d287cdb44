use Rattle.books.specs.Reads.{permits_on}
use Rattle.books.specs.Formula.{formula_rule}
use Rattle.books.proofs.Found.{found_lowest}
use Rattle.books.proofs.Partners.{no_partner, partner_by}
use Rattle.books.proofs.formula.FormulaBookBook.partner.Goals as goal

pub returns-in_err-record_of-clause-found : goal.returns-in_err-record_of-clause-found
returns-in_err-record_of-clause-found c = no_partner _ _ _ _ _ c.in_err-record_of.ensures _ c.from_residual.ensures

pub returns-clause-found : goal.returns-clause-found
returns-clause-found c =
    let rule = formula_rule c.in_ok-record_of.field-0 in
    partner_by _ _ rule c.in_ok-record_of.ensures c.args.arc.side c.args.option c.args.set.word c.lowest.result
    (found_lowest (permits_on rule c.args.arc.side c.args.option) c.args.set.word c.partners.result.word c.partners.ensures c.lowest.result c.lowest.ensures.least)
