use Rattle.std.proofs.Common.{◌≡◌}
use Rattle.network.specs.Network.{part, words}
use Rattle.propagation.specs.Arcs.{OnlyArcs, OthersOk}
use Rattle.propagation.specs.Progress.{Filled}
use Rattle.propagation.specs.Standing.{Led}
use Rattle.propagation.specs.Turns.{work}
use Rattle.propagation.proofs.propagate.propagate.Given as goal

abbrev pub invariant-loop-arc : goal.invariant-loop-arc
invariant-loop-arc g l =
    let rules = g.B.Book.meaning l.initial.book in
    let sets = words l.standing.sets.now in
    let w = g.W.Agenda.waiting l.agenda in record {
      same : g.B.Book.meaning l.book ≡ rules;
      led : Led rules l.initial.standing l.standing;
      filled : Filled sets;
      only : OnlyArcs rules w;
      others : OthersOk rules (part sets) w;
    }

abbrev pub decreases-loop-arc : goal.decreases-loop-arc
decreases-loop-arc g l = work (words l.standing.sets.now) (g.W.Agenda.waiting l.agenda)
