use Rattle.std.proofs.Common.{vec_items, subst}
use Rattle.draft.specs.Replay.{Performed}
use Rattle.draft.proofs.Replays.{replays_from}
use Rattle.draft.proofs.draft.Draft.replay.Goals as goal

-- the draft that was opened has the book that was handed in
pub returns : goal.returns
returns g c =
    let new = c.in_ok-draft.ensures.opens in
    let d = c.in_ok-draft.draft in
    let d' = c.perform_each.new.self in
    let answers = c.perform_each.new.answers in
    let made = subst (λ b. Performed (g.B.Book.meaning b) d c.args.calls.now (vec_items answers) d') new.book c.perform_each.ensures.performed in
    replays_from (g.B.Book.meaning c.args.book) c.args.book _ d d' c.args.calls.now answers new made
