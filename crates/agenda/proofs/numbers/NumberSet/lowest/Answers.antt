use Rattle.std.proofs.Common.{ap, sym, ◌∙◌, arith}
use Rattle.std.specs.Option.{option_map}
use Rattle.agenda.proofs.NumberSets.{lowest_none, lowest_some}
use Rattle.agenda.proofs.numbers.NumberSet.lowest.Goals as goal

pub returns-in_err-place : goal.returns-in_err-place
returns-in_err-place c = ap (option_map (λ n. n.value)) c.from_residual.ensures ∙ sym (lowest_none c.args.self.now (omega arith) (sym c.in_err-place.ensures))

pub invariant_of-result : goal.invariant_of-result
invariant_of-result c = record { below = (lowest_some c.args.self.now c.in_ok-place.place (omega arith) (sym c.in_ok-place.ensures) (omega arith)).0 }

pub returns : goal.returns
returns c = sym (lowest_some c.args.self.now c.in_ok-place.place (omega arith) (sym c.in_ok-place.ensures) (omega arith)).1
