use Rattle.std.proofs.Common.{ℕ, T, ◌⊎◌}
use Rattle.network.specs.Network.{has}
use Rattle.tightening.specs.Probes.{probes_of, PutOn}
use Rattle.tightening.proofs.probes.put_options.Given as goal

abbrev pub invariant-loop-option : goal.invariant-loop-option
invariant-loop-option g l =
    let w = g.W.Agenda.waiting l.probes in
    PutOn (g.W.Agenda.waiting l.initial.probes) w
    × ((a : ℕ) → T (has l.rest.word a) → T (has l.initial.rest.word a))
    × ((a : ℕ) → T (has l.initial.rest.word a) → T (has l.rest.word a) ⊎ T (probes_of w l.field a))

abbrev pub decreases-loop-option : goal.decreases-loop-option
decreases-loop-option g l = l.rest.word
