use Rattle.std.proofs.Common.{length}
use Rattle.propagation.specs.Arcs.{OnlyBelow, AllBelow}
use Rattle.propagation.proofs.arcs.put_all.Given as goal

abbrev pub invariant-loop-rule : goal.invariant-loop-rule
invariant-loop-rule g l =
    let w = g.W.Agenda.waiting l.agenda in
    OnlyBelow (length l.ends) w × AllBelow l.rule w
