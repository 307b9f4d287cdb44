-- What waits on an agenda: a set of job numbers, and what putting and taking do to it.
use Rattle.std.specs.Prelude.{◌≡◌, ℕ, zero, suc, ◌+◌, Bool, true, false, cond, not, ◌&&◌, ◌||◌, Some, None, Option, ◌==◌, nat_lt}

-- how many numbers there are; they run from 0
abbrev pub number_limit : ℕ
number_limit = 512

-- which numbers wait: those of the jobs that were put and not yet taken
abbrev pub Waiting : Type 0
Waiting = ℕ → Bool

abbrev pub Nothing : Waiting → Type 0
Nothing w = (k : ℕ) → w k ≡ false

abbrev pub Same : Waiting → Waiting → Type 0
Same w w' = (k : ℕ) → w' k ≡ w k

abbrev pub with_one : Waiting → ℕ → Waiting
with_one w n k = k == n || w k

abbrev pub without : Waiting → ℕ → Waiting
without w n k = not (k == n) && w k

-- what waits once n was put: n as well, unless there is no such number
abbrev pub put_number : Waiting → ℕ → Waiting
put_number w n k = cond (nat_lt n number_limit) (with_one w n k) (w k)

-- a number was taken: it waited and waits no longer, and none came exactly if nothing waited
abbrev pub Taken : Waiting → Option ℕ → Waiting → Type 0
Taken w None w' = Nothing w × Nothing w'
Taken w (Some n) w' = (w n ≡ true) × Same (without w n) w'

-- how many numbers below n wait
unfoldable pub waits : Waiting → ℕ → ℕ
waits w zero = 0
waits w (suc n) = cond (w n) 1 0 + waits w n
