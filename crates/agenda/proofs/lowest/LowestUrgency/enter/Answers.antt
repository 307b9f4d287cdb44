use Rattle.std.proofs.Common.{arith}
use Rattle.agenda.specs.Ranked.{urgencies_of}
use Rattle.agenda.proofs.Buckets.{enters, entered}
use Rattle.agenda.proofs.lowest.LowestUrgency.enter.Goals as goal

pub invariant_of-self : goal.invariant_of-self
unfolding urgencies_of
invariant_of-self c =
    let kept = enters c.args.self.now c.args.number.value c.args.urgency (omega arith) (omega arith) (omega arith) (omega arith) c.requires c.insert.new.self c.insert-2.new.self c.insert.ensures (rw c.from.ensures at c.insert-2.ensures) in
    record { within = kept.0; filed = kept.1; shown = kept.2 }

pub returns : goal.returns
unfolding urgencies_of
returns c = entered c.args.self.now.urgencies c.args.number.value c.args.urgency (omega arith) (omega arith)
