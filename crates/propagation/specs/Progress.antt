-- What propagation does to the sets and to the list of strikes, and how it ends.
use Rattle.std.specs.Prelude.{◌≡◌, ℕ, ◌+◌, ◌<◌, List, ◌++◌, length, vec_items, vec_len, vec_capacity, Vec, slice_index}
use Rattle.network.specs.Network.{Rule, part, Largest}
use Rattle.propagation.specs.Strikes.{Struck}
use Rattle.propagation.specs.Opening.{Emptied, Blamed}
use Rattle.propagation.specs.declared.record.Decision.{Decision}
use Rattle.propagation.specs.declared.record.Strike.{Strike}
use Rattle.propagation.specs.declared.record.WipedOut.{WipedOut}

-- the strikes that were added lead from the first sets to the last, whatever was decided: each was for want of a partner
pub record Progress {Z : Type 0} (rules : List Rule) (sets : List ℕ) (old : Vec Strike Z) (sets' : List ℕ) (new : Vec Strike Z) : Type 0 where
  pub found : List Strike
  pub items : vec_items new ≡ vec_items old ++ found
  pub len : vec_len new ≡ vec_len old + length found
  pub cap : vec_capacity new ≡ vec_capacity old
  pub struck : (decisions : List Decision) → Struck rules decisions sets found sets'

-- every field has an option left
abbrev pub Filled : List ℕ → Type 0
Filled sets = (x : ℕ) → x < length sets → 0 < slice_index sets x

-- propagation is done: what is left is the largest arc-consistent part of what stood, with no field empty
pub record SettledOn (rules : List Rule) (sets sets' : List ℕ) : Type 0 where
  pub largest : Largest rules (part sets) (part sets')
  pub filled : Filled sets'

-- propagation emptied a field: it is empty in the largest part of what stood, and the rule is to blame
pub record WipedFrom (rules : List Rule) (sets : List ℕ) (w : WipedOut) : Type 0 where
  pub field : w.field < length sets
  pub emptied : Emptied rules (part sets) w.field
  pub blamed : Blamed rules (part sets) w.field w.rule
