-- What a tightening answers, and what its buffers then hold.
use Rattle.std.specs.Prelude.{◌≡◌, ℕ, ◌*◌, ◌<◌, cond, ◌||◌, ◌⊎◌, List, length, Some, None, Ok, Err, Option, Result, ◌==◌, nat_lt, slice_index}
use Rattle.faults.specs.declared.EngineFault.{EngineFault}
use Rattle.faults.specs.declared.EngineFault.TheVariants.{FieldCount, ShortBuffer, NoTightPart}
use Rattle.network.specs.Network.{field_limit, Rule, part}
use Rattle.books.specs.Pairs.{pairs_of}
use Rattle.propagation.specs.Progress.{Filled}
use Rattle.propagation.specs.Refusals.{opening_refusal}
use Rattle.tightening.specs.Rows.{words_a_field}
use Rattle.tightening.specs.Start.{StayBeyond}
use Rattle.tightening.specs.Tightening.{Tightest, TightWipedOut}
use Rattle.tightening.specs.declared.tighten.Untightened.{Untightened}
use Rattle.tightening.specs.declared.tighten.Untightened.TheVariants.{Refused, Memory}

-- why a tightening is refused before it begins, if so: too few pair words come after the number of fields
abbrev pub tighten_refusal : List Rule → (sets pairs : List ℕ) → Option EngineFault
tighten_refusal rules sets pairs =
    let n = length sets in
    cond (n == 0 || nat_lt field_limit n) (Some FieldCount)
    (cond (nat_lt (length pairs) (n * words_a_field)) (Some ShortBuffer)
    (opening_refusal rules sets))

-- done: the sets and the first pair words are exactly the largest strongly dual-consistent part, in which no field is empty; words beyond stay
pub record Tightened (rules : List Rule) (sets pairs sets' pairs' : List ℕ) : Type 0 where
  pub long : length sets' ≡ length sets
  pub tightest : Tightest rules sets (part sets') (pairs_of (length sets) pairs')
  pub filled : Filled sets'
  pub not_wiped_out : TightWipedOut rules sets → ⊥
  pub rest : StayBeyond (length sets) pairs pairs'

-- that part has an empty field: the sets stay, the first pair words are empty, words beyond stay
pub record NotTightened (rules : List Rule) (sets pairs sets' pairs' : List ℕ) : Type 0 where
  pub same : sets' ≡ sets
  pub wiped_out : TightWipedOut rules sets
  pub none : (i : ℕ) → i < length sets * words_a_field → slice_index pairs' i ≡ 0
  pub rest : StayBeyond (length sets) pairs pairs'

-- nothing changed
pub record Untouched (sets pairs sets' pairs' : List ℕ) : Type 0 where
  pub same_sets : sets' ≡ sets
  pub same_pairs : pairs' ≡ pairs

-- what the tightening of a copy of the sets leaves in the copy and in the pair words of their fields, once it is not refused beforehand
abbrev pub TightensCopy : List Rule → (sets pairs : List ℕ) → Result (Unit {0}) Untightened → (sets' pairs' : List ℕ) → Type 0
TightensCopy rules sets pairs (Ok _) sets' pairs' = (length sets' ≡ length sets) × (Filled sets' × Tightest rules sets (part sets') (pairs_of (length sets) pairs'))
TightensCopy rules sets pairs (Err (Refused why)) sets' pairs' = (why ≡ NoTightPart) × (TightWipedOut rules sets × ((i : ℕ) → slice_index pairs' i ≡ 0))
TightensCopy rules sets pairs (Err (Memory _)) sets' pairs' = pairs' ≡ pairs

-- what a tightening answers, and what its buffers then hold
abbrev pub Tightens : List Rule → (sets pairs : List ℕ) → Result (Unit {0}) Untightened → (sets' pairs' : List ℕ) → Type 0
Tightens rules sets pairs (Ok _) sets' pairs' = (tighten_refusal rules sets pairs ≡ None) × Tightened rules sets pairs sets' pairs'
Tightens rules sets pairs (Err (Refused why)) sets' pairs' =
    ((tighten_refusal rules sets pairs ≡ Some why) × Untouched sets pairs sets' pairs')
    ⊎ ((tighten_refusal rules sets pairs ≡ None) × ((why ≡ NoTightPart) × NotTightened rules sets pairs sets' pairs'))
Tightens rules sets pairs (Err (Memory _)) sets' pairs' = (tighten_refusal rules sets pairs ≡ None) × Untouched sets pairs sets' pairs'
