-- What stays true of an open draft's sets, record and marks between calls.
use Rattle.std.specs.Prelude.{◌≡◌, ℕ, ◌<◌, ◌≤◌, Bool, true, ◌&&◌, List, [], ◌∷◌, length, nat_le}
use Rattle.network.specs.Network.{field_limit, part, words}
use Rattle.network.specs.declared.options.OptionSet.{OptionSet}
use Rattle.propagation.specs.Progress.{Filled}
use Rattle.propagation.specs.Strikes.{without, left_by}
use Rattle.propagation.specs.Undo.{Fit}
use Rattle.propagation.specs.declared.record.Strike.{Strike}
use Rattle.draft.specs.Draft.{State, decision_limit}
use Rattle.draft.specs.declared.types.Taken.{Taken}

-- how many entries a record can have: every option of every field can be struck once
abbrev pub record_limit : ℕ
record_limit = 512

-- whether each option stood until its strike
abbrev pub stood : List ℕ → List Strike → Bool
stood sets [] = true
stood sets (s ∷ rest) = part sets s.field s.option && stood (without sets s.field s.option) rest

-- whether the marks rise, and none passes the length of the record
abbrev pub first_mark : List Taken → ℕ → ℕ
first_mark [] top = top
first_mark (t ∷ ts) top = t.mark

abbrev pub rising : List Taken → ℕ → Bool
rising [] top = true
rising (t ∷ ts) top = nat_le t.mark (first_mark ts top) && rising ts top

-- an open draft by the lists that it holds
abbrev pub state_of : (opening : List OptionSet) (taken : List Taken) (strikes : List Strike) (standing : List OptionSet) → State
state_of opening taken strikes standing = record { opening = words opening; taken = taken; strikes = strikes; standing = words standing }

-- what is true of every open draft
pub record Sound (s : State) : Type 0 where
  -- it has 1 to 16 fields, each with options that a field can have
  pub some : 0 < length s.opening
  pub few : length s.opening ≤ field_limit
  pub fit : Fit s.opening
  -- what stands is what the record leaves, and no field is empty
  pub filled : Filled s.standing
  pub stands : s.standing ≡ left_by s.opening s.strikes
  pub struck : stood s.opening s.strikes ≡ true
  -- no more decisions are in force than can be, and their marks rise
  pub decided : length s.taken ≤ decision_limit
  pub marks : rising s.taken (length s.strikes) ≡ true
