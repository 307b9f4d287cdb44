use Rattle.std.proofs.Common.{◌≡◌, ◌≤◌, length, take, vec_items, vec_len, vec_capacity}
use Rattle.draft.specs.Replay.{Performed}
use Rattle.draft.proofs.draft.Draft.perform_each.Given as goal

abbrev pub invariant-loop-call : goal.invariant-loop-call
invariant-loop-call g l =
    (g.B.Book.meaning l.self.book ≡ g.B.Book.meaning l.initial.self.book) ×
    ((vec_len l.answers ≡ l.call-index) ×
    ((length l.calls ≤ vec_capacity l.answers) ×
    Performed (g.B.Book.meaning l.initial.self.book) l.initial.self (take l.call-index l.calls) (vec_items l.answers) l.self))
