-- One turn of propagation: an arc is taken and revised.
use Rattle.std.specs.Prelude.{◌≡◌, ℕ, ◌+◌, ◌*◌, ◌<◌, ◌≤◌, List, length, slice_index_or}
use Rattle.network.specs.Network.{Rule, part}
use Rattle.network.specs.declared.rules.Side.{Side}
use Rattle.agenda.specs.Waiting.{Waiting, waits}
use Rattle.network.specs.declared.rules.Arc.{Arc}
use Rattle.propagation.specs.Strikes.{options}
use Rattle.propagation.specs.Arcs.{own, Sound, OnlyArcs, OthersOk, OthersBut}
use Rattle.propagation.specs.Progress.{Filled}
use Rattle.propagation.specs.declared.record.WipedOut.{WipedOut}

-- what is left to do: options that stand, each of which outweighs all arcs, and arcs that wait
abbrev pub work : List ℕ → Waiting → ℕ
work sets w = options sets * 257 + waits w 256

-- an arc that was taken can be revised
pub record Ready (rules : List Rule) (sets : List ℕ) (w : Waiting) (arc : Arc) : Type 0 where
  pub sound : Sound rules sets
  pub filled : Filled sets
  pub rule : arc.rule < length rules
  pub only : OnlyArcs rules w
  pub others : OthersBut rules (part sets) w arc

-- the arc was revised, and no field is empty
pub record Turned (rules : List Rule) (sets : List ℕ) (w : Waiting) (sets' : List ℕ) (w' : Waiting) : Type 0 where
  pub filled : Filled sets'
  pub only : OnlyArcs rules w'
  pub others : OthersOk rules (part sets') w'
  pub less : work sets' w' ≤ work sets w

-- a field of the rule has no option left
pub record Wiped (rules : List Rule) (sets : List ℕ) (w : WipedOut) : Type 0 where
  pub side : Side
  pub rule : w.rule < length rules
  pub field : w.field ≡ own rules side w.rule
  pub empty : slice_index_or sets w.field 0 ≡ 0
