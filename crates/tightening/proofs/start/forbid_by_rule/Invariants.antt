use Rattle.std.proofs.Common.{length}
use Rattle.network.specs.Network.{words}
use Rattle.tightening.proofs.Starting.{PartWay}
use Rattle.tightening.proofs.start.forbid_by_rule.Given as goal

abbrev pub invariant-loop-option : goal.invariant-loop-option
invariant-loop-option g l =
    PartWay (g.B.Book.meaning l.book) (words l.sets) l.rule (length l.sets) l.waiting.word (words l.pairs)

abbrev pub decreases-loop-option : goal.decreases-loop-option
decreases-loop-option g l = l.waiting.word
