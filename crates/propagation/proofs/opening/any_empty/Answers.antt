use Rattle.std.proofs.Common.{◌≡◌, ◌^◌, ◌<◌, true, false, rules}
use Rattle.std.proofs.lemmas.Iterator.{YieldsList-from_slice, cases_from_any}
use Rattle.network.specs.Network.{option_limit}
use Rattle.network.specs.declared.options.OptionSet.{OptionSet}
use Rattle.propagation.specs.Refusals.{empty}
use Rattle.propagation.proofs.Openings.{search_empty}
use Rattle.propagation.proofs.opening.any_empty.Goals as goal

pub returns : goal.returns
returns c =
    let sets = c.args.sets.now in
    let seen = cases_from_any _ _ c.any.result (λ (s : OptionSet). true ≡ empty s.word) (λ s. (s.word < 2 ^ option_limit) × (false ≡ empty s.word)) c.any.ensures.ran (YieldsList-from_slice sets cc) (λ x q k. search rules) (λ x q k. search rules) in
    let told = search_empty c.any.result sets seen in
    record { answer = told.0; fit = told.1 }
