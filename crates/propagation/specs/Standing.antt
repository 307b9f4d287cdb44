-- What strikes did to what stands.
use Rattle.std.specs.Prelude.{◌≡◌, List}
use Rattle.network.specs.Network.{Rule, words}
use Rattle.propagation.specs.Progress.{Progress}
use Rattle.propagation.specs.declared.standing.Standing.{Standing}

-- strikes for want of a partner led from what stood to what stands, in the same sets and the same list
pub record Led (rules : List Rule) (s s' : Standing) : Type 0 where
  pub same_sets : s'.sets.ghost_name ≡ s.sets.ghost_name
  pub same_list : s'.strikes.ghost_name ≡ s.strikes.ghost_name
  pub progress : Progress rules (words s.sets.now) s.strikes.now (words s'.sets.now) s'.strikes.now
