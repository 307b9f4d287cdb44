use Rattle.std.proofs.Common.{ℕ, ◌<◌, get_or}
use Rattle.propagation.specs.Arcs.{no_ends}
use Rattle.propagation.proofs.Asking.{AreEnds}
use Rattle.propagation.proofs.arcs.list_ends.Given as goal

abbrev pub invariant-loop-rule : goal.invariant-loop-rule
invariant-loop-rule g l = (r : ℕ) → r < l.rule → AreEnds (g.B.Book.meaning l.book) r (get_or l.listed r no_ends)
