-- The pairs that stand at the start: those of two options of two fields that no rule forbids.
use Rattle.std.specs.Prelude.{◌≡◌, ℕ, ◌*◌, ◌/◌, ◌%◌, ◌≤◌, cond, not, ◌&&◌, T, List, length, drop, ◌==◌, slice_index}
use Rattle.network.specs.Network.{option_limit, field_limit, Rule, part}
use Rattle.books.specs.Pairs.{pairs_of}
use Rattle.tightening.specs.Rows.{words_a_field}
use Rattle.tightening.specs.Tightening.{Stands}

-- the word of option a of field x towards field y before any rule is looked at: the options of y, if the fields differ and x has a
abbrev pub first_word : List ℕ → ℕ → ℕ → ℕ → ℕ
first_word sets x a y = cond (not (x == y) && part sets x a) (slice_index sets y) 0

-- the same, by the place of the word
abbrev pub first_word_at : List ℕ → ℕ → ℕ
first_word_at sets i = first_word sets (i / field_limit / option_limit) (i / field_limit % option_limit) (i % field_limit)

-- the pair words of the sets' fields tell just the pairs that stand
pub record Standing (rules : List Rule) (sets words : List ℕ) : Type 0 where
  pub all : (x a y b : ℕ) → T (pairs_of (length sets) words x a y b) → Stands rules sets x a y b
  pub only : (x a y b : ℕ) → Stands rules sets x a y b → T (pairs_of (length sets) words x a y b)

-- the words are enough for the pairs of n fields
abbrev pub Room : ℕ → List ℕ → Type 0
Room n words = n * words_a_field ≤ length words

-- the words beyond those of n fields stay
pub record StayBeyond (n : ℕ) (words words' : List ℕ) : Type 0 where
  pub beyond : drop (n * words_a_field) words' ≡ drop (n * words_a_field) words
  pub long : length words' ≡ length words
