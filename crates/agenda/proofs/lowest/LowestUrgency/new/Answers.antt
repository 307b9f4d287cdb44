use Rattle.agenda.specs.Ranked.{urgencies_of}
use Rattle.agenda.proofs.Buckets.{listed_none, kept_new}
use Rattle.agenda.proofs.lowest.LowestUrgency.new.Goals as goal

pub invariant_of-result : goal.invariant_of-result
invariant_of-result c =
    let kept = kept_new c.new.result c.new-2.result 512 c.new.ensures c.new-2.ensures in
    record { within = kept.0; filed = kept.1; shown = kept.2 }

pub returns : goal.returns
unfolding urgencies_of
returns c = listed_none 512
