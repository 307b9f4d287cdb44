use Rattle.std.proofs.Common.{length}
use Rattle.propagation.specs.Arcs.{OnlyBelow, Still, Neighbours}
use Rattle.propagation.proofs.arcs.put_neighbours.Given as goal

abbrev pub invariant-loop-rule : goal.invariant-loop-rule
invariant-loop-rule g l =
    let w = g.W.Agenda.waiting l.agenda in
    OnlyBelow (length l.ends) w × Still (g.W.Agenda.waiting l.initial.agenda) w × Neighbours l.ends l.rule l.revised.own l.revised.arc.rule w
