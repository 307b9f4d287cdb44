-- Numbers that wait with an urgency each.
use Rattle.std.specs.Prelude.{◌≡◌, ℕ, zero, suc, ◌<◌, Bool, true, false, cond, ◌&&◌, List, [], ◌++◌, is_some, Some, None, Option, ◌==◌, nat_lt, slice_index_or}
use Rattle.agenda.specs.Waiting.{number_limit, Waiting, Nothing}
use Rattle.agenda.specs.Sequence.{rising}

-- the urgency with which a number waits, none where it does not wait
abbrev pub Urgencies : Type 0
Urgencies = ℕ → Option ℕ

-- urgencies by a list, number 0 first
abbrev pub listed : List (Option ℕ) → Urgencies
listed us k = slice_index_or us k None

-- how many urgencies there are
abbrev pub urgency_limit : ℕ
urgency_limit = 256

-- the numbers that wait
abbrev pub any_urgency : Urgencies → Waiting
any_urgency u k = is_some (u k)

-- whether it is urgency v
abbrev pub is_at : Option ℕ → ℕ → Bool
is_at None v = false
is_at (Some x) v = x == v

-- the numbers that wait with urgency v
abbrev pub urgent : Urgencies → ℕ → Waiting
urgent u v k = is_at (u k) v

-- the numbers with an urgency below a limit, by rising urgency, ties by rising number
unfoldable pub by_urgency : Urgencies → ℕ → List ℕ
by_urgency u zero = []
by_urgency u (suc v) = by_urgency u v ++ rising (urgent u v) number_limit

-- the waiting sequence: the first is the next to be taken
abbrev pub in_order : Urgencies → List ℕ
in_order u = by_urgency u urgency_limit

-- a number that waits, none exactly if nothing does
abbrev pub Foremost : Urgencies → Option ℕ → Type 0
Foremost u None = Nothing (any_urgency u)
Foremost u (Some n) = (n < number_limit) × (any_urgency u n ≡ true)

-- number n waits with urgency v now, unless there is no such number
abbrev pub with_urgency : Urgencies → ℕ → ℕ → Urgencies
with_urgency u n v k = cond (nat_lt n number_limit && k == n) (Some v) (u k)

-- number n waits no longer
abbrev pub dropped : Urgencies → ℕ → Urgencies
dropped u n k = cond (k == n) None (u k)

-- a number waits no longer, if one was taken
abbrev pub dropped_if : Urgencies → Option ℕ → Urgencies
dropped_if u None k = u k
dropped_if u (Some n) k = dropped u n k
