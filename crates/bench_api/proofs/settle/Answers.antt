use Rattle.std.proofs.Common.{ℕ, suc, ◌*◌, ◌^◌, ◌<◌, ◌≤◌, List, [], ◌∷◌, length, get_or, arith, rules}
use lib.Count.{ones-le}
use Rattle.network.specs.Network.{words}
use Rattle.propagation.specs.Strikes.{options}
use Rattle.propagation.proofs.Steps.{progress_count}
use Rattle.bench_api.proofs.settle.Goals as goal

-- a field has at most 32 options
options_bound : (sets : List ℕ) → ((x : ℕ) → get_or sets x 0 < 2 ^ 32) → options sets ≤ 32 * length sets
options_bound [] fit = omega arith
options_bound (w ∷ ws) fit = omega (arith, ones-le 32 w (fit 0), options_bound ws (λ x. fit (suc x)))

pub propagate-requires-clause-room : goal.propagate-requires-clause-room
propagate-requires-clause-room c =
    let accepted = c.in_ok-check_opening.ensures.accepted in
    omega (arith, options_bound (words c.args.sets.now) accepted.fit, accepted.few, c.in_ok-strikes.ensures.len, c.in_ok-strikes.ensures.capacity)

pub returns : goal.returns
returns c =
    let accepted = c.in_ok-check_opening.ensures.accepted in
    let sets = words c.args.sets.now in
    let all = options_bound sets accepted.fit in
    let count = progress_count _ sets (words c.propagate.new.sets) _ _ c.propagate.ensures.progress in
    (search rules, (omega (arith, c.in_ok-strikes.ensures.len), omega (arith, accepted.few, c.in_ok-strikes.ensures.len)))
