use Rattle.std.proofs.Common.{sym, ◌∙◌, subst, arith}
use Rattle.std.proofs.lemmas.Result.{err_from_is_err_and}
use Rattle.agenda.specs.Jobs.{probe_number, probe_of, probe_fits}
use Rattle.agenda.proofs.Takes.{none_waits}
use Rattle.agenda.proofs.Waits.{waits_without}
use Rattle.network.specs.Network.{part, words}
use Rattle.books.specs.Pairs.{pairs_of}
use Rattle.tightening.specs.Tightening.{Tightest}
use Rattle.tightening.specs.Underway.{Between}
use Rattle.tightening.proofs.Turning.{only_after, ended, wiped}
use Rattle.tightening.proofs.turn.Probing.probe_all.Goals as goal

pub loop-probe-preserved : goal.loop-probe-preserved
loop-probe-preserved g c =
    let inv = c.loop-probe.invariant in
    let s = c.turn.new.self in
    let w = g.V.Agenda.waiting c.loop-probe.probes in
    let took = c.in-Some.ensures.taken.1 in (
      c.in_ok-turn.ensures.sets ∙ inv.0,
      c.in_ok-turn.ensures.pairs ∙ inv.1,
      c.in_ok-turn.ensures.length ∙ inv.2,
      c.in_ok-turn.ensures.filled inv.3,
      c.turn.ensures.put.only (only_after w _ (probe_number c.in-Some.probe) 512 took.1 inv.4),
      λ rules first b. subst (λ n. Between rules first n (words s.sets.now) (words s.pairs.now) (g.V.Agenda.waiting c.turn.new.probes)) (sym c.turn.ensures.length) (c.turn.ensures.between rules first w took.1 (inv.5 rules first b)).0,
    )

pub loop-probe-smaller : goal.loop-probe-smaller
loop-probe-smaller g c =
    let inv = c.loop-probe.invariant in
    let w = g.V.Agenda.waiting c.loop-probe.probes in
    let took = c.in-Some.ensures.taken.1 in
    let begun = c.requires.begun in
    let less = (c.turn.ensures.between begun.0 begun.1.0 w took.1 (inv.5 begun.0 begun.1.0 begun.1.1)).1 in
    let number = probe_number c.in-Some.probe in
    omega (arith, less, waits_without w (g.V.Agenda.waiting c.take_job.new.agenda) number 512 (inv.4 number took.0) took.0 took.1)

pub returns-in_err-turn-clause-emptied : goal.returns-in_err-turn-clause-emptied
returns-in_err-turn-clause-emptied g c =
    let s = c.turn.new.self in
    let w = g.V.Agenda.waiting c.loop-probe.probes in
    let took = c.in-Some.ensures.taken.1 in
    let empty = c.in_err-turn.ensures.emptied in
    let p = err_from_is_err_and c.from_residual.result c.from_residual.ensures.1 in
    rw p.1 (λ rules first b. wiped rules first _ (words s.sets.now) (words s.pairs.now) _ c.in-Some.probe.field (c.turn.ensures.between rules first w took.1 (c.loop-probe.invariant.5 rules first b)).0 empty.0 empty.1)

pub returns-clause-tightest : goal.returns-clause-tightest
returns-clause-tightest g c =
    let inv = c.loop-probe.invariant in
    let s = c.loop-probe.self in
    let w = g.V.Agenda.waiting c.loop-probe.probes in
    let none = none_waits 512 probe_fits probe_number probe_of w (g.V.Agenda.waiting c.take_job.new.agenda) inv.4 c.in_default.ensures.taken in
    λ rules first b. subst (λ n. Tightest rules first (part (words s.sets.now)) (pairs_of n (words s.pairs.now))) inv.2 (ended rules first _ (words s.sets.now) (words s.pairs.now) w (inv.5 rules first b) none.0)
