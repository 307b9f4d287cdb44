use Rattle.books.specs.Reads.{allowed}
use Rattle.tightening.proofs.Starting.{Kept}
use Rattle.tightening.proofs.start.allowed_with.Given as goal

abbrev pub invariant-loop-other : goal.invariant-loop-other
invariant-loop-other g l = Kept (allowed (g.B.Book.meaning l.book) l.rule l.option) l.initial.waiting.word l.waiting.word l.passing.word

abbrev pub decreases-loop-other : goal.decreases-loop-other
decreases-loop-other g l = l.waiting.word
