use Rattle.agenda.specs.Urgent.{listed}
use Rattle.agenda.specs.Ranked.{urgencies_of}
use Rattle.agenda.proofs.Urgencies.{dropped_nothing}
use Rattle.agenda.proofs.lowest.LowestUrgency.withdraw.Goals as goal

pub leave-requires : goal.leave-requires
unfolding urgencies_of
leave-requires c = c.in-Some.is

pub returns-in_default : goal.returns-in_default
unfolding urgencies_of
returns-in_default c = dropped_nothing (listed c.args.self.now.urgencies) c.args.number.value c.in_default.not-Some
