-- What a settle answers.
use Rattle.std.specs.Prelude.{◌≡◌, ℕ, ◌+◌, ◌≤◌, List, Some, Ok, Err, Result}
use Rattle.network.specs.Network.{Rule}
use Rattle.propagation.specs.Strikes.{options}
use Rattle.propagation.specs.Opening.{Accepted}
use Rattle.propagation.specs.Refusals.{opening_refusal}
use Rattle.propagation.specs.Progress.{SettledOn, WipedFrom}
use Rattle.bench_api.specs.declared.SettleError.{SettleError}
use Rattle.bench_api.specs.declared.SettleError.TheVariants.{Refused, OutOfMemory, WipedOut}

-- settled, and so many options were struck, at most the 512 that there can be; or why not: the opening is refused, there
-- is no memory for the strikes, or a field became empty
abbrev pub Settles : List Rule → List ℕ → List ℕ → Result ℕ SettleError → Type 0
Settles rules first last (Ok struck) = SettledOn rules first last × ((struck + options last ≡ options first) × (struck ≤ 512))
Settles rules first last (Err (Refused fault)) = opening_refusal rules first ≡ Some fault
Settles rules first last (Err OutOfMemory) = Accepted rules first
Settles rules first last (Err (WipedOut w)) = WipedFrom rules first w
