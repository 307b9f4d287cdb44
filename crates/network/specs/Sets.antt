-- What the operations on sets of options give, said of their words.
use Rattle.std.specs.Prelude.{◌≡◌, ℕ, ◌+◌, ◌-◌, ◌*◌, ◌/◌, ◌%◌, ◌^◌, ◌<◌, Bool, true, false, cond, T, Some, None, Option, ◌==◌, nat_lt}
use Rattle.std.specs.Int.Count.{count_trailing_zeros}
use Rattle.network.specs.Network.{option_limit, has}

-- the set of option a alone; empty where no field has such an option
abbrev pub alone : ℕ → ℕ
alone a = cond (nat_lt a option_limit) (2 ^ a) 0

-- the set w without option a
abbrev pub set_without : ℕ → ℕ → ℕ
set_without w a = cond (has w a) (w - 2 ^ a) w

-- the set w with option a, where a field can have it
abbrev pub set_with : ℕ → ℕ → ℕ
set_with w a = cond (has w a) w (w + alone a)

-- the options of w below n, and those from n on
abbrev pub set_below : ℕ → ℕ → ℕ
set_below w n = w % 2 ^ n

abbrev pub set_from : ℕ → ℕ → ℕ
set_from w n = w / 2 ^ n * 2 ^ n

-- the lowest option of w, if there is one
abbrev pub lowest_of : ℕ → Option ℕ
lowest_of w = cond (w == 0) None (Some (count_trailing_zeros option_limit w))

-- it is in the set, and no option below it is; there is none only in the empty set
abbrev pub Lowest : ℕ → Option ℕ → Type 0
Lowest w (Some a) = T (has w a) × ((b : ℕ) → b < a → has w b ≡ false)
Lowest w None = w ≡ 0

-- what is left of w once its lowest option is taken out
abbrev pub rest_after : ℕ → Option ℕ → ℕ
rest_after w (Some a) = w - 2 ^ a
rest_after w None = 0

-- an option of w that passes, while those of w below it do not; there is none only where no option of w passes
abbrev pub FirstPassing : (ℕ → Bool → Type 0) → ℕ → Option ℕ → Type 0
FirstPassing answers w (Some a) = T (has w a) × (answers a true × ((b : ℕ) → b < a → T (has w b) → answers b false))
FirstPassing answers w None = (b : ℕ) → T (has w b) → answers b false
