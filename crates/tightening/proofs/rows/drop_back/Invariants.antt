use Rattle.std.proofs.Common.{◌≡◌, ℕ, ◌||◌, T}
use Rattle.network.specs.Network.{has, words}
use Rattle.tightening.specs.Rows.{pairs_in, less_back, Leaves, word_to}
use Rattle.tightening.proofs.rows.drop_back.Given as goal

abbrev pub invariant-loop-with : goal.invariant-loop-with
invariant-loop-with l =
    let row = l.own in
    let first = words l.initial.words in
    Leaves row.fields first (words l.words) (less_back (pairs_in row first) row.field row.option l.other (λ b. has l.keep.word b || has l.waiting.word b))
    × (word_to row (words l.words) l.other ≡ word_to row first l.other)
    × ((b : ℕ) → T (has l.waiting.word b) → T (has (word_to row first l.other) b))

abbrev pub decreases-loop-with : goal.decreases-loop-with
decreases-loop-with l = l.waiting.word
