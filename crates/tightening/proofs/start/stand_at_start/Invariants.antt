use Rattle.std.proofs.Common.{take}
use Rattle.network.specs.Network.{words}
use Rattle.tightening.specs.Start.{Standing}
use Rattle.tightening.proofs.start.stand_at_start.Given as goal

abbrev pub invariant-loop-rule : goal.invariant-loop-rule
invariant-loop-rule g l = Standing (take l.rule (g.B.Book.meaning l.book)) (words l.sets) (words l.pairs)
