use Rattle.std.proofs.Common.{◌<◌, true, length, refl, arith}
use Rattle.propagation.proofs.Puts.{both_below, every_next}
use Rattle.propagation.proofs.arcs.put_all.Goals as goal

pub loop-rule-preserved : goal.loop-rule-preserved
loop-rule-preserved g c =
    let w = g.W.Agenda.waiting in
    let r = c.loop-rule.rule in
    let n = length c.args.ends.now in
    let within : r < length c.args.ends.now = omega arith in (
      both_below (w c.loop-rule.agenda) (w c.put_arc.new.agenda) (w c.put_arc-in-loop-rule.new.agenda) r true true c.put_arc.ensures c.put_arc-in-loop-rule.ensures n within c.loop-rule.invariant.0,
      every_next (w c.loop-rule.agenda) (w c.put_arc.new.agenda) (w c.put_arc-in-loop-rule.new.agenda) r true true c.put_arc.ensures c.put_arc-in-loop-rule.ensures refl refl c.loop-rule.invariant.1,
    )
