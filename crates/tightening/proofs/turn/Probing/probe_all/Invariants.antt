use Rattle.std.proofs.Common.{◌≡◌, ℕ, ◌<◌, true, List, length}
use Rattle.network.specs.Network.{Rule, words}
use Rattle.propagation.specs.Progress.{Filled}
use Rattle.tightening.specs.Underway.{Between, work}
use Rattle.tightening.proofs.turn.Probing.probe_all.Given as goal

abbrev pub invariant-loop-probe : goal.invariant-loop-probe
invariant-loop-probe g l =
    let first = l.initial.self in
    let n = length first.sets.now in
    let w = g.V.Agenda.waiting l.probes in
    (l.self.sets.ghost_name ≡ first.sets.ghost_name)
    × (l.self.pairs.ghost_name ≡ first.pairs.ghost_name)
    × (length l.self.sets.now ≡ n)
    × Filled (words l.self.sets.now)
    × ((k : ℕ) → w k ≡ true → k < 512)
    × ((rules : List Rule) (start : List ℕ) → Between rules start n (words first.sets.now) (words first.pairs.now) (g.V.Agenda.waiting l.initial.probes) → Between rules start (length l.self.sets.now) (words l.self.sets.now) (words l.self.pairs.now) w)

abbrev pub decreases-loop-probe : goal.decreases-loop-probe
decreases-loop-probe g l = work (words l.self.sets.now) (words l.self.pairs.now) (g.V.Agenda.waiting l.probes)
