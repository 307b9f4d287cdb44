-- Strikes: what they leave, and when their causes hold. Set words stand for the sets, one for each field.
use Rattle.std.specs.Prelude.{◌≡◌, ℕ, ◌+◌, ◌-◌, ◌^◌, ◌<◌, Bool, true, false, cond, not, ◌&&◌, T, List, [], ◌∷◌, length, ◌==◌, count_ones, slice_index, slice_index_or, slice_set}
use Rattle.network.specs.Network.{Rule, Part, part, rule_at}
use Rattle.network.specs.declared.rules.Side.{Side}
use Rattle.network.specs.declared.rules.Side.TheVariants.{Left, Right}
use Rattle.propagation.specs.declared.record.Decision.{Decision}
use Rattle.propagation.specs.declared.record.Decision.TheVariants.{Choose, Exclude}
use Rattle.propagation.specs.declared.record.Cause.{Cause}
use Rattle.propagation.specs.declared.record.Cause.TheVariants.{Decided, Unsupported}
use Rattle.propagation.specs.declared.record.Strike.{Strike}

-- whether a decision lets option a of field x stand
abbrev pub permits : Decision → ℕ → ℕ → Bool
permits (Choose y b) x a = cond (x == y) (a == b) true
permits (Exclude y b) x a = not (x == y && a == b)

-- a decision is among those in force
abbrev pub InForce : List Decision → Decision → Type 0
InForce decisions d = (i : ℕ) × ((i < length decisions) × ((e : Decision) → slice_index_or decisions i e ≡ d))

-- the sets less one option
abbrev pub without : List ℕ → ℕ → ℕ → List ℕ
without sets x a = slice_set sets x (slice_index sets x - 2 ^ a)

-- how many options the sets hold
abbrev pub options : List ℕ → ℕ
options [] = 0
options (w ∷ ws) = count_ones w + options ws

-- option a of field x has no partner in p under rule r, of which x is that side
abbrev pub UnsupportedAt : List Rule → Part → Side → ℕ → ℕ → ℕ → Type 0
UnsupportedAt rules p Left r x a = ((rule_at rules r).left ≡ x) × ((b : ℕ) → T ((rule_at rules r).allows a b) → T (p (rule_at rules r).right b) → ⊥)
UnsupportedAt rules p Right r x b = ((rule_at rules r).right ≡ x) × ((a : ℕ) → T ((rule_at rules r).allows a b) → T (p (rule_at rules r).left a) → ⊥)

-- the cause of a strike holds against what stands: the decision is in force and leaves the option out, or the option has no partner
abbrev pub Holds : List Rule → List Decision → List ℕ → ℕ → ℕ → Cause → Type 0
Holds rules decisions sets x a (Decided d) = InForce decisions d × (permits d x a ≡ false)
Holds rules decisions sets x a (Unsupported r side) = (r < length rules) × UnsupportedAt rules (part sets) side r x a

-- what stands once strikes are made, in their order
abbrev pub left_by : List ℕ → List Strike → List ℕ
left_by sets [] = sets
left_by sets (s ∷ rest) = left_by (without sets s.field s.option) rest

-- strikes lead from the first sets to the last: each option stood until then, and its cause held
abbrev pub Struck : List Rule → List Decision → List ℕ → List Strike → List ℕ → Type 0
Struck rules decisions sets [] last = last ≡ sets
Struck rules decisions sets (s ∷ rest) last =
    T (part sets s.field s.option) × (Holds rules decisions sets s.field s.option s.cause × Struck rules decisions (without sets s.field s.option) rest last)
