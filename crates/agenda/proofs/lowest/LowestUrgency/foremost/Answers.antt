use Rattle.std.proofs.Common.{sym, ap, ◌∙◌, subst}
use Rattle.std.specs.Option.{option_map}
use Rattle.agenda.specs.Sequence.{first_of}
use Rattle.agenda.specs.Urgent.{listed, Foremost}
use Rattle.agenda.specs.Ranked.{urgencies_of}
use Rattle.agenda.proofs.Urgencies.{foremost_waits}
use Rattle.agenda.proofs.Buckets.{idle_order, lowest_small, lowest_order}
use Rattle.agenda.proofs.lowest.LowestUrgency.foremost.Goals as goal

pub returns-in_err-urgency : goal.returns-in_err-urgency
unfolding urgencies_of
returns-in_err-urgency c =
    let l = c.args.self.now in
    let answer = ap (option_map (λ n. n.value)) c.from_residual.ensures ∙ sym (ap first_of (idle_order l (sym c.in_err-urgency.ensures))) in
    record { answer = answer; waits = subst (Foremost (listed l.urgencies)) (sym answer) (foremost_waits (listed l.urgencies) l.within) }

pub bounds-self-urgency : goal.bounds-self-urgency
bounds-self-urgency c = lowest_small c.args.self.now c.in_ok-urgency.urgency.value (sym c.in_ok-urgency.ensures)

pub returns : goal.returns
unfolding urgencies_of
returns c =
    let l = c.args.self.now in
    let answer = c.lowest-2.ensures ∙ lowest_order l c.in_ok-urgency.urgency.value (sym c.in_ok-urgency.ensures) in
    record { answer = answer; waits = subst (Foremost (listed l.urgencies)) (sym answer) (foremost_waits (listed l.urgencies) l.within) }
