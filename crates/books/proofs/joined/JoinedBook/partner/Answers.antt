use Rattle.books.proofs.Partners.{no_partner, partner_like}
use Rattle.books.proofs.joined.JoinedBook.partner.Goals as goal

pub returns-in_err-rule-clause-found : goal.returns-in_err-rule-clause-found
returns-in_err-rule-clause-found g c = no_partner _ _ _ _ _ c.in_err-rule.ensures _ c.from_residual.ensures

pub returns-in-First-clause-found : goal.returns-in-First-clause-found
returns-in-First-clause-found g c = partner_like _ _ _ _ (rw c.in-First.is at c.in_ok-rule.ensures) _ _ _ _ c.partner.ensures.found

pub returns-in-Second-clause-found : goal.returns-in-Second-clause-found
returns-in-Second-clause-found g c = partner_like _ _ _ _ (rw c.in-Second.is at c.in_ok-rule.ensures) _ _ _ _ c.partner-in-Second.ensures.found
