use Rattle.std.proofs.Common.{◌<◌, length, get_or, set, sym, subst, arith, below_more}
use Rattle.std.proofs.lemmas.List.{get_or-set_same, get_or-set_other, length-take-le}
use Rattle.network.specs.Network.{rule_limit}
use Rattle.propagation.specs.Arcs.{no_ends}
use Rattle.propagation.proofs.Asking.{AreEnds, asked_left, asked_right}
use Rattle.propagation.proofs.arcs.list_ends.Goals as goal

pub loop-rule-preserved : goal.loop-rule-preserved
loop-rule-preserved g c =
    let rules = g.B.Book.meaning c.args.book.now in
    let ends = c.loop-rule.listed in
    let r = c.loop-rule.rule in
    let e = c.ends.result in
    let all = length-take-le c.count.result c.args.table.now (omega (arith, c.count.ensures, c.requires)) in
    let within : r < length ends = omega arith in
    let small : r < rule_limit = omega (arith, c.count.ensures, c.requires) in
    below_more (λ q. AreEnds rules q (get_or (set ends r e) q no_ends)) r
    (λ q lt. subst (AreEnds rules q) (sym (get_or-set_other ends r q e no_ends (λ f. omega arith))) (c.loop-rule.invariant q lt))
    (subst (AreEnds rules r) (sym (get_or-set_same ends r e no_ends within)) (asked_left rules r small e.left c.ends.ensures.left, asked_right rules r small e.right c.ends.ensures.right))
