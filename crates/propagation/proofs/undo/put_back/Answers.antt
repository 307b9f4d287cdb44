use Rattle.std.proofs.Common.{◌≡◌, ◌∙◌, reverse, drop, ap, arith}
use Rattle.std.proofs.lemmas.Grind.{common_steps}
use Rattle.std.proofs.lemmas.Iterator.Adapters.{YieldsList-from_rev_slice}
use Rattle.std.proofs.lemmas.Iterator.Consumers.{YieldsList-end}
use Rattle.std.proofs.lemmas.List.{reverse-reverse}
use Rattle.network.specs.Network.{words}
use Rattle.propagation.specs.Undo.{put_all}
use Rattle.propagation.proofs.Undoing.{undone}
use Rattle.propagation.proofs.undo.put_back.Goals as goal

pub returns : goal.returns
returns c =
    let later = drop c.args.mark c.args.strikes.now in
    let all = YieldsList-end (YieldsList-from_rev_slice later (grind (arith, common_steps))) c.loop-strike.yielded _ c.loop-strike.yielded_by _ _ c.in-None.is c.next.ensures.steps in
    let after : words c.loop-strike.sets ≡ put_all (words c.args.sets.now) later = c.loop-strike.invariant ∙ ap (λ ss. put_all (words c.args.sets.now) (reverse ss)) all.0 ∙ ap (put_all (words c.args.sets.now)) (reverse-reverse later) in
    record { after = after; restored = λ rules decisions first fit struck. after ∙ undone rules decisions later first (words c.args.sets.now) fit struck }
