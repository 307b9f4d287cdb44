-- Rows of pair words: what an option of one field is paired with in each field, and what taking pairs away leaves.
use Rattle.std.specs.Prelude.{◌≡◌, ℕ, ◌*◌, ◌^◌, ◌<◌, ◌≤◌, Bool, true, cond, ◌&&◌, T, ◌≢◌, List, length, ◌==◌, nat_lt, slice_index}
use Rattle.network.specs.Network.{option_limit, field_limit, Part}
use Rattle.books.specs.Pairs.{Pairs, word_at, pairs_of}
use Rattle.propagation.specs.Strikes.{options}
use Rattle.tightening.specs.declared.rows.Choice.{Choice}

-- how many pair words an option of a field has, times the options of a field
abbrev pub words_a_field : ℕ
words_a_field = 512

-- an option of one of the fields, and words that are enough for all fields
pub record InTable (row : Choice) (words : List ℕ) : Type 0 where
  pub few : row.fields ≤ field_limit
  pub field : row.field < row.fields
  pub option : row.option < option_limit
  pub room : row.fields * words_a_field ≤ length words

-- the pairs that a row's table stands for
abbrev pub pairs_in : Choice → List ℕ → Pairs
pairs_in row words = pairs_of row.fields words

-- pairs come in both orders, and are of two fields
pub record TwoWay (q : Pairs) : Type 0 where
  pub mirrored : (x a y b : ℕ) → T (q x a y b) → T (q y b x a)
  pub apart : (x a y b : ℕ) → T (q x a y b) → x ≢ y

-- q less the pairs of option a of field x with the options of field y that do not pass, in the other order only, and in both
abbrev pub less_back : Pairs → ℕ → ℕ → ℕ → (ℕ → Bool) → Pairs
less_back q x a y passes u b v c = q u b v c && cond (v == x && (c == a && u == y)) (passes b) true

abbrev pub less_toward : Pairs → ℕ → ℕ → ℕ → (ℕ → Bool) → Pairs
less_toward q x a y passes u b v c =
    less_back q x a y passes u b v c && cond (u == x && (b == a && v == y)) (passes c) true

-- the words now stand for the pairs q, and no option comes back
pub record Leaves (n : ℕ) (words words' : List ℕ) (q : Pairs) : Type 0 where
  pub pairs : (x a y b : ℕ) → pairs_of n words' x a y b ≡ q x a y b
  pub long : length words' ≡ length words
  pub fewer : options words' ≤ options words

-- the word of the row towards field y
abbrev pub word_to : Choice → List ℕ → ℕ → ℕ
word_to row words y = slice_index words (word_at row.field row.option y)

-- all the options of field y that option a of field x is paired with pass
abbrev pub AllPass : Pairs → ℕ → ℕ → ℕ → (ℕ → Bool) → Type 0
AllPass q x a y passes = (b : ℕ) → T (q x a y b) → T (passes b)

-- q less the pairs of option a of field x with what l does not keep of the first k fields, in both orders
abbrev pub less_below : Pairs → ℕ → ℕ → Part → ℕ → Pairs
less_below q x a l k u b v c =
    q u b v c && (cond (u == x && (b == a && nat_lt v k)) (l v c) true && cond (v == x && (c == a && nat_lt u k)) (l u b) true)

-- the set that a probe of the row's option starts from in field y: the option alone, or what it is paired with
abbrev pub row_word : Choice → List ℕ → ℕ → ℕ
row_word row words y = cond (row.field == y) (2 ^ row.option) (word_to row words y)
