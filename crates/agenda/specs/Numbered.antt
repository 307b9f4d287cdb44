-- Sets of numbers by the bits of 64-bit words.
use Rattle.std.specs.Prelude.{ℕ, ◌/◌, ◌%◌, Bool, not, [], ◌==◌, slice_index}
use Rattle.network.specs.Network.{has}
use Rattle.agenda.specs.Waiting.{Waiting}
use Rattle.agenda.specs.declared.numbers.NumberSet.{NumberSet}

-- the numbers of the set: bit k % 64 of word k / 64 stands for k
unfoldable pub numbers : NumberSet → Waiting
numbers s k = has (slice_index s.words (k / 64)) (k % 64)

-- whether a word has a bit
abbrev pub any_bit : ℕ → Bool
any_bit w = not (w == 0)

abbrev pub no_numbers : NumberSet
no_numbers = record { words = [] }
