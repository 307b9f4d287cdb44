-- Probes that wait: a probe for an option of a field.
use Rattle.std.specs.Prelude.{◌≡◌, ℕ, ◌<◌, true, ◌&&◌, T, nat_lt}
use Rattle.network.specs.Network.{option_limit, Part, has}
use Rattle.agenda.specs.Waiting.{Waiting, number_limit}
use Rattle.agenda.specs.Jobs.{probe_number}

-- which options wait to be probed; a number from 32 on is no option
abbrev pub probes_of : Waiting → Part
probes_of w x a = nat_lt a option_limit && w (probe_number (record { field = x; option = a }))

-- what waited still waits, and only numbers of probes do
pub record PutOn (w w' : Waiting) : Type 0 where
  pub still : (k : ℕ) → w k ≡ true → w' k ≡ true
  pub only : ((k : ℕ) → w k ≡ true → k < number_limit) → (k : ℕ) → w' k ≡ true → k < number_limit

-- every option of a set waits as one of field x
abbrev pub AllWait : ℕ → ℕ → Waiting → Type 0
AllWait x set w = (a : ℕ) → T (has set a) → T (probes_of w x a)
