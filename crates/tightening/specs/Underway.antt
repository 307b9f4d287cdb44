-- What holds between two probes.
use Rattle.std.specs.Prelude.{◌≡◌, ℕ, ◌+◌, ◌*◌, ◌<◌, T, List, length}
use Rattle.network.specs.Network.{Rule, Part, part, Within, InLargest}
use Rattle.books.specs.Pairs.{Pairs, pairs_of, pair_rules}
use Rattle.agenda.specs.Waiting.{Waiting, waits, number_limit}
use Rattle.propagation.specs.Strikes.{options}
use Rattle.tightening.specs.Rows.{TwoWay}
use Rattle.tightening.specs.Probes.{probes_of}
use Rattle.tightening.specs.Tightening.{Stands, narrowed, TightOption, TightPair}

-- every strongly dual part is within p and q
pub record Covers (rules : List Rule) (sets : List ℕ) (p : Part) (q : Pairs) : Type 0 where
  pub options : (x a : ℕ) → TightOption rules sets x a → T (p x a)
  pub pairs : (x a y b : ℕ) → TightPair rules sets x a y b → T (q x a y b)

-- every option is one of the sets, and every pair is of two kept options and stands
pub record Consistent (rules : List Rule) (sets : List ℕ) (p : Part) (q : Pairs) : Type 0 where
  pub options : Within p (part sets)
  pub pairs : (x a y b : ℕ) → T (q x a y b) → Stands rules sets x a y b × (T (p x a) × T (p y b))

-- the probe of an option leaves no field empty and takes no pair away
pub record Probed (rules : List Rule) (sets : List ℕ) (p : Part) (q : Pairs) (x a : ℕ) : Type 0 where
  pub full : (z : ℕ) → z < length sets → (c : ℕ) × InLargest (pair_rules (length sets) q) (narrowed p x a) z c
  pub holds : (y b : ℕ) → T (q x a y b) → InLargest (pair_rules (length sets) q) (narrowed p x a) y b

-- nothing of the largest part is lost, every pair stands, and each option that does not wait is done
pub record Underway (rules : List Rule) (sets : List ℕ) (waits : Part) (p : Part) (q : Pairs) : Type 0 where
  pub covers : Covers rules sets p q
  pub standing : Consistent rules sets p q
  pub done : (x a : ℕ) → T (p x a) → (T (waits x a) → ⊥) → Probed rules sets p q x a

-- the same of n set words, pair words and what waits
pub record Between (rules : List Rule) (first : List ℕ) (n : ℕ) (sets pairs : List ℕ) (w : Waiting) : Type 0 where
  pub fields : n ≡ length first
  pub long : length sets ≡ n
  pub two_way : TwoWay (pairs_of n pairs)
  pub underway : Underway rules first (probes_of w) (part sets) (pairs_of n pairs)

-- of some rules and some first sets
abbrev pub Begun : ℕ → List ℕ → List ℕ → Waiting → Type 0
Begun n sets pairs w = (rules : List Rule) × ((first : List ℕ) × Between rules first n sets pairs w)

-- what is left to do: options and pairs, each of which outweighs all probes, and probes that wait
abbrev pub work : List ℕ → List ℕ → Waiting → ℕ
work sets pairs w = (options sets + options pairs) * 513 + waits w number_limit
