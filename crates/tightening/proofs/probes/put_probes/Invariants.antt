use Rattle.std.proofs.Common.{ℕ, ◌<◌, T}
use Rattle.network.specs.Network.{part, words}
use Rattle.tightening.specs.Probes.{probes_of, PutOn}
use Rattle.tightening.proofs.probes.put_probes.Given as goal

abbrev pub invariant-loop-field : goal.invariant-loop-field
invariant-loop-field g l =
    let w = g.W.Agenda.waiting l.probes in
    PutOn (g.W.Agenda.waiting l.initial.probes) w
    × ((x a : ℕ) → x < l.field → T (part (words l.options) x a) → T (probes_of w x a))
