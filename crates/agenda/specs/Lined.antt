-- First come, first served.
use Rattle.std.specs.Prelude.{ℕ, cond, not, ◌&&◌, List, [], ◌∷◌, ◌++◌, nat_lt}
use Rattle.agenda.specs.Waiting.{number_limit}
use Rattle.agenda.specs.Sequence.{among}
use Rattle.agenda.specs.Ring.{around}
use Rattle.agenda.specs.declared.first.FirstCome.{FirstCome}

-- the waiting sequence, in the order in which the numbers came
unfoldable pub line : FirstCome → List ℕ
line f = around f.places f.first f.count

-- the sequence once n was put: at its end, unless n waits already and keeps its place
abbrev pub lined_up : List ℕ → ℕ → List ℕ
lined_up ns n = cond (nat_lt n number_limit && not (among ns n)) (ns ++ n ∷ []) ns
