-- Arcs: a rule and the side of it whose field is to be revised.
use Rattle.std.specs.Prelude.{◌≡◌, ℕ, ◌*◌, ◌^◌, ◌<◌, ◌≤◌, Bool, true, false, T, List, length, ◌≢◌, slice_index, slice_index_or}
use Rattle.network.specs.Network.{Rule, Part, part, rule_at, option_limit, field_limit, rule_limit}
use Rattle.network.specs.declared.rules.Ends.{Ends}
use Rattle.network.specs.declared.rules.Side.{Side}
use Rattle.network.specs.declared.rules.Side.TheVariants.{Left, Right}
use Rattle.agenda.specs.Waiting.{Waiting}
use Rattle.agenda.specs.Jobs.{arc_number}
use Rattle.network.specs.declared.rules.Arc.{Arc}
use Rattle.propagation.specs.declared.arcs.PlacedArc.{PlacedArc}
use Rattle.propagation.specs.declared.record.Cause.TheVariants.{Unsupported}
use Rattle.propagation.specs.declared.record.Strike.{Strike}

-- the field on that side of a rule, and the field across
abbrev pub own : List Rule → Side → ℕ → ℕ
own rules Left r = (rule_at rules r).left
own rules Right r = (rule_at rules r).right

abbrev pub across : List Rule → Side → ℕ → ℕ
across rules Left r = (rule_at rules r).right
across rules Right r = (rule_at rules r).left

-- whether the rule allows a on that side with b across
abbrev pub pairs : List Rule → Side → ℕ → ℕ → ℕ → Bool
pairs rules Left r a b = (rule_at rules r).allows a b
pairs rules Right r a b = (rule_at rules r).allows b a

-- option a on that side has a partner across that p keeps
abbrev pub Supported : List Rule → Part → Side → ℕ → ℕ → Type 0
Supported rules p side r a = (b : ℕ) × (T (pairs rules side r a b) × T (p (across rules side r) b))

-- an arc is consistent: each option on that side has a partner across
abbrev pub ArcOk : List Rule → Part → Side → ℕ → Type 0
ArcOk rules p side r = (a : ℕ) → T (p (own rules side r) a) → Supported rules p side r a

-- the number of the arc of that side of rule r
abbrev pub number_of : ℕ → Side → ℕ
number_of r side = arc_number (record { rule = r; side = side })

-- every arc that does not wait is consistent
abbrev pub OthersOk : List Rule → Part → Waiting → Type 0
OthersOk rules p w = (r : ℕ) (side : Side) → r < length rules → w (number_of r side) ≡ false → ArcOk rules p side r

-- the same, but for one arc
abbrev pub OthersBut : List Rule → Part → Waiting → Arc → Type 0
OthersBut rules p w arc =
    (r : ℕ) (side : Side) → r < length rules → (number_of r side ≢ arc_number arc) → w (number_of r side) ≡ false → ArcOk rules p side r

-- what is read past a list of ends
abbrev pub no_ends : Ends
no_ends = record { left = 0; right = 0 }

-- the end on that side, and the end across
abbrev pub end_on : Ends → Side → ℕ
end_on ends Left = ends.left
end_on ends Right = ends.right

abbrev pub end_across : Ends → Side → ℕ
end_across ends Left = ends.right
end_across ends Right = ends.left

-- an arc of a rule with these ends
abbrev pub placed : Arc → Ends → PlacedArc
placed arc ends = record { arc = arc; own = end_on ends arc.side; across = end_across ends arc.side }

-- the ends of rule r in a list of ends, by side: its own and the one across
abbrev pub listed_own : List Ends → Side → ℕ → ℕ
listed_own ends side r = end_on (slice_index_or ends r no_ends) side

abbrev pub listed_across : List Ends → Side → ℕ → ℕ
listed_across ends side r = end_across (slice_index_or ends r no_ends) side

-- a list of ends is that of the rules
pub record Listed (rules : List Rule) (ends : List Ends) : Type 0 where
  pub count : length ends ≡ length rules
  pub own : (r : ℕ) (side : Side) → r < length rules → listed_own ends side r ≡ own rules side r
  pub across : (r : ℕ) (side : Side) → r < length rules → listed_across ends side r ≡ across rules side r

-- at most 128 of them, each one of n fields
pub record BetweenFields (ends : List Ends) (n : ℕ) : Type 0 where
  pub few : length ends ≤ rule_limit
  pub fields : (r : ℕ) (side : Side) → r < length ends → listed_own ends side r < n

-- only arcs of the first n rules wait, and all of those do
abbrev pub OnlyBelow : ℕ → Waiting → Type 0
OnlyBelow n w = (k : ℕ) → w k ≡ true → k < 2 * n

abbrev pub AllBelow : ℕ → Waiting → Type 0
AllBelow n w = (r : ℕ) (side : Side) → r < n → w (number_of r side) ≡ true

-- every arc of the first n rules that lies across from field x waits, but for those of one rule
abbrev pub Neighbours : List Ends → ℕ → ℕ → ℕ → Waiting → Type 0
Neighbours ends n x but w =
    (r : ℕ) (side : Side) → r < n → (r ≢ but) → listed_across ends side r ≡ x → w (number_of r side) ≡ true

-- only arcs of the rules wait
abbrev pub OnlyArcs : List Rule → Waiting → Type 0
OnlyArcs rules = OnlyBelow (length rules)

-- what waited still waits
abbrev pub Still : Waiting → Waiting → Type 0
Still w w' = (k : ℕ) → w k ≡ true → w' k ≡ true

-- the rules lie between fields of the sets, which may be empty
pub record Sound (rules : List Rule) (sets : List ℕ) : Type 0 where
  pub few : length sets ≤ field_limit
  pub fit : (x : ℕ) → slice_index sets x < 2 ^ option_limit
  pub rules_few : length rules ≤ rule_limit
  pub own_field : (r : ℕ) (side : Side) → r < length rules → own rules side r < length sets
  pub across_field : (r : ℕ) (side : Side) → r < length rules → across rules side r < length sets
  pub apart : (r : ℕ) (side : Side) → r < length rules → across rules side r ≢ own rules side r

-- an arc of the rules, with its field and the field across
pub record ArcAt (rules : List Rule) (sets : List ℕ) (place : PlacedArc) : Type 0 where
  pub sound : Sound rules sets
  pub rule : place.arc.rule < length rules
  pub field : place.own ≡ own rules place.arc.side place.arc.rule
  pub other : place.across ≡ across rules place.arc.side place.arc.rule

-- the strike of option a for want of a partner along the arc
abbrev pub strike_of : PlacedArc → ℕ → Strike
strike_of place a = record { field = place.own; option = a; cause = Unsupported place.arc.rule place.arc.side }

-- sets that differ in field x only
abbrev pub Elsewhere : List ℕ → List ℕ → ℕ → Type 0
Elsewhere sets sets' x = (z : ℕ) → (z ≢ x) → slice_index sets' z ≡ slice_index sets z

-- an arc was revised: nothing changed but its field, which kept every option with a partner across, and no other
pub record Revised (rules : List Rule) (sets sets' : List ℕ) (place : PlacedArc) : Type 0 where
  pub elsewhere : Elsewhere sets sets' place.own
  pub stays : (a : ℕ) → Supported rules (part sets) place.arc.side place.arc.rule a → T (part sets place.own a) → T (part sets' place.own a)
  pub consistent : ArcOk rules (part sets') place.arc.side place.arc.rule
