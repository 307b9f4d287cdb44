-- Pairs of options, and the largest strongly dual-consistent part.
use Rattle.std.specs.Prelude.{◌≡◌, ℕ, ◌<◌, true, cond, ◌&&◌, T, ◌≢◌, List, length, ◌==◌}
use Rattle.books.specs.Pairs.{Pairs, pair_rules}
use Rattle.network.specs.Network.{Rule, Part, part, Within, rule_at, ArcConsistent, InLargest, Largest}

-- both options are there, and every rule between the two fields, in either order, allows the pair
pub record Stands (rules : List Rule) (sets : List ℕ) (x a y b : ℕ) : Type 0 where
  pub apart : x ≢ y
  pub first : T (part sets x a)
  pub second : T (part sets y b)
  pub forth : (r : ℕ) → r < length rules → (rule_at rules r).left ≡ x → (rule_at rules r).right ≡ y → T ((rule_at rules r).allows a b)
  pub back : (r : ℕ) → r < length rules → (rule_at rules r).left ≡ y → (rule_at rules r).right ≡ x → T ((rule_at rules r).allows b a)

-- q less the pairs of option a of field x with what l does not keep, in both orders
abbrev pub less_pairs : Pairs → ℕ → ℕ → Part → Pairs
less_pairs q x a l y b z c =
    q y b z c && (cond (y == x && b == a) (l z c) true && cond (z == x && c == a) (l y b) true)

-- p with field x narrowed to option a
abbrev pub narrowed : Part → ℕ → ℕ → Part
narrowed p x a y b = p y b && cond (x == y) (a == b) true

-- option a of field x, and in each other field what q pairs it with
abbrev pub row : Pairs → ℕ → ℕ → Part
row q x a y b = cond (x == y) (a == b) (q x a y b)

-- the largest arc-consistent part has an option in each field, and b of y is in it
pub record InFullLargest (n : ℕ) (rules : List Rule) (p : Part) (y b : ℕ) : Type 0 where
  pub full : (z : ℕ) → z < n → (c : ℕ) × InLargest rules p z c
  pub member : InLargest rules p y b

-- options p and pairs q of options of p, each of which stands, form a strongly dual-consistent part
pub record StronglyDual (rules : List Rule) (sets : List ℕ) (p : Part) (q : Pairs) : Type 0 where
  pub options : Within p (part sets)
  pub pairs : (x a y b : ℕ) → T (q x a y b) → Stands rules sets x a y b × (T (p x a) × T (p y b))
  pub both_orders : (x a y b : ℕ) → T (q x a y b) → T (q y b x a)
  pub arc : ArcConsistent (pair_rules (length sets) q) p
  pub dual : (x a y b : ℕ) → T (q x a y b) → InFullLargest (length sets) (pair_rules (length sets) q) (narrowed p x a) y b

-- the union of all such parts: its options and its pairs
abbrev pub TightOption : List Rule → List ℕ → ℕ → ℕ → Type 0
TightOption rules sets x a = (p : Part) × ((q : Pairs) × (StronglyDual rules sets p q × T (p x a)))

abbrev pub TightPair : List Rule → List ℕ → ℕ → ℕ → ℕ → ℕ → Type 0
TightPair rules sets x a y b = (p : Part) × ((q : Pairs) × (StronglyDual rules sets p q × T (q x a y b)))

-- p and q keep exactly the options and the pairs of the largest strongly dual-consistent part
pub record Tightest (rules : List Rule) (sets : List ℕ) (p : Part) (q : Pairs) : Type 0 where
  pub all_options : (x a : ℕ) → T (p x a) → TightOption rules sets x a
  pub only_options : (x a : ℕ) → TightOption rules sets x a → T (p x a)
  pub all_pairs : (x a y b : ℕ) → T (q x a y b) → TightPair rules sets x a y b
  pub only_pairs : (x a y b : ℕ) → TightPair rules sets x a y b → T (q x a y b)

-- the largest strongly dual-consistent part has an empty field
abbrev pub TightWipedOut : List Rule → List ℕ → Type 0
TightWipedOut rules sets = (x : ℕ) × ((x < length sets) × ((a : ℕ) → TightOption rules sets x a → ⊥))

-- over an exact part, narrowing a field to a kept option and settling leaves what the option is paired with, and no field empty
abbrev pub RowsAreExact : Type 0
RowsAreExact =
    (rules : List Rule) (sets : List ℕ) (p : Part) (q : Pairs) → Tightest rules sets p q → (x a : ℕ) → T (p x a) →
    Largest (pair_rules (length sets) q) (narrowed p x a) (row q x a) × ((z : ℕ) → z < length sets → (c : ℕ) × T (row q x a z c))
