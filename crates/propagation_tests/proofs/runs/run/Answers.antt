use Rattle.std.proofs.Common.{ℕ, suc, ◌*◌, ◌^◌, ◌<◌, ◌≤◌, List, [], ◌∷◌, length, get_or, arith}
use lib.Count.{ones-le}
use Rattle.network.specs.Network.{words}
use Rattle.propagation.specs.Strikes.{options}
use Rattle.propagation_tests.proofs.runs.run.Goals as goal

-- a field has at most 32 options
options_bound : (sets : List ℕ) → ((x : ℕ) → get_or sets x 0 < 2 ^ 32) → options sets ≤ 32 * length sets
options_bound [] fit = omega arith
options_bound (w ∷ ws) fit = omega (arith, ones-le 32 w (fit 0), options_bound ws (λ x. fit (suc x)))

pub propagate-requires : goal.propagate-requires
propagate-requires g c =
    let accepted = c.in-Ok.ensures.accepted in
    let few = options_bound (words c.args.sets.now) accepted.fit in
    record { accepted = accepted; room = omega (arith, few, accepted.few, c.in-Ok-with_capacity.ensures.len, c.in-Ok-with_capacity.ensures.capacity) }
