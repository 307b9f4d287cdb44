use Rattle.std.proofs.Common.{rules, sym, ◌∙◌}
use Rattle.session.proofs.Passing.{refused_by, passes}
use Rattle.session.proofs.session.enter.Goals as goal

pub returns-in_err-enter_formula-in-EnterFormula-clause-answers : goal.returns-in_err-enter_formula-in-EnterFormula-clause-answers
returns-in_err-enter_formula-in-EnterFormula-clause-answers c =
    let e = c.in_err-enter_formula-in-EnterFormula in
    let h = passes _ e.field-0.0 (sym e.was ∙ c.enter_formula.ensures.answers) in search rules

pub returns-in_err-enter_formula-in-EnterFormula-clause-after : goal.returns-in_err-enter_formula-in-EnterFormula-clause-after
returns-in_err-enter_formula-in-EnterFormula-clause-after c =
    let e = c.in_err-enter_formula-in-EnterFormula in
    let h = refused_by _ e.field-0.0 (sym e.was ∙ c.enter_formula.ensures.answers) in search rules
