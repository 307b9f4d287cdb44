-- What a list of set words keeps once an option is struck, or a word is put in.
use Rattle.std.proofs.Common.{◌≡◌, ℕ, zero, suc, get_or, replicate, refl}
use Rattle.network.specs.Network.{words}
use Rattle.network.specs.declared.options.OptionSet.{OptionSet}

-- sets without an option
pub all_empty : (k i : ℕ) (v : OptionSet) → v.word ≡ 0 → get_or (words (replicate k v)) i 0 ≡ 0
all_empty zero i v e = refl
all_empty (suc k) zero v e = e
all_empty (suc k) (suc i) v e = all_empty k i v e
