use Rattle.std.proofs.Common.{◌^◌, ◌<◌, T, ◌⊎◌, sym, ap, ◌∙◌, subst, rules}
use Rattle.agenda.specs.declared.job.Probe.{Probe}
use Rattle.network.specs.Network.{has}
use Rattle.network.proofs.Truth.{T_left}
use Rattle.network.proofs.Bits.{has_below, has_less}
use Rattle.tightening.specs.Probes.{probes_of}
use Rattle.tightening.proofs.Waitings.{put_then, put_one, it_waits, one_less}
use Rattle.tightening.proofs.probes.put_options.Goals as goal

pub loop-option-preserved : goal.loop-option-preserved
loop-option-preserved g c =
    let w = g.W.Agenda.waiting in
    let d = c.in-Some.option in
    let rest = c.loop-option.rest.word in
    let h = c.in-Some.ensures.least.0 in
    let fits : c.args.set.word < 2 ^ 32 = search rules in
    let small = has_below 32 c.args.set.word d fits (c.loop-option.invariant.1 d h) in
    let probe : Probe = record { field = c.args.field; option = d } in
    let put = put_one (w c.loop-option.probes) (w c.put_job.new.agenda) probe c.requires small c.put_job.ensures.waiting in
    let here = it_waits (w c.loop-option.probes) (w c.put_job.new.agenda) probe c.requires small c.put_job.ensures.waiting in
    let after = c.in-Some.ensures.after in (
      put_then _ (w c.loop-option.probes) (w c.put_job.new.agenda) c.loop-option.invariant.0 put,
      λ a t. c.loop-option.invariant.1 a (T_left (has rest a) _ (subst T (ap (λ v. has v a) after ∙ has_less rest d a h) t)),
      λ a t. subst (λ v. T (has v a) ⊎ T (probes_of (w c.put_job.new.agenda) c.args.field a)) (sym after)
          (one_less (w c.loop-option.probes) (w c.put_job.new.agenda) c.args.field c.args.set.word rest d put h here c.loop-option.invariant.2 a t),
    )
