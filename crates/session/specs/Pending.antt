-- The bytes that are kept of a line that is being read.
use Rattle.std.specs.Prelude.{ℕ, List}
use Rattle.session.specs.declared.pending.PendingLine.{PendingLine}

abbrev pub kept : PendingLine → List ℕ
kept p = p.bytes.items
