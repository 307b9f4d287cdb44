use Rattle.std.proofs.Common.{◌≡◌, map, reverse}
use Rattle.network.specs.Network.{words}
use Rattle.propagation.specs.Undo.{put_all}
use Rattle.propagation.proofs.undo.put_back.Given as goal

abbrev pub invariant-loop-strike : goal.invariant-loop-strike
invariant-loop-strike l = words l.sets ≡ put_all (words l.initial.sets) (reverse (map (λ s. s.now) l.yielded))
