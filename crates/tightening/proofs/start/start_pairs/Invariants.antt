use Rattle.network.specs.Network.{words}
use Rattle.tightening.proofs.Starting.{Written}
use Rattle.tightening.proofs.start.start_pairs.Given as goal

abbrev pub invariant-loop-place : goal.invariant-loop-place
invariant-loop-place l = Written (words l.sets) l.place (words l.pairs)
