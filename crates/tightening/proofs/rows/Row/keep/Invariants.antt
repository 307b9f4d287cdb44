use Rattle.network.specs.Network.{part, words}
use Rattle.tightening.specs.Rows.{pairs_in, less_below, Leaves}
use Rattle.tightening.proofs.TakingAway.{LostBelow}
use Rattle.tightening.proofs.rows.Row.keep.Given as goal

abbrev pub invariant-loop-other : goal.invariant-loop-other
invariant-loop-other l =
    let own = l.own in
    let first = words l.initial.words in
    let keep = part (words l.sets) in
    Leaves own.fields first (words l.words) (less_below (pairs_in own first) own.field own.option keep l.other)
    × LostBelow own first keep l.other (words l.words)
