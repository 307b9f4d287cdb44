-- Pairs of options of two fields, as pair words, and the rules that they make.
use Rattle.std.specs.Prelude.{◌≡◌, ℕ, zero, suc, ◌+◌, ◌-◌, ◌*◌, ◌<◌, ◌≤◌, min, Bool, cond, ◌&&◌, List, [], ◌∷◌, ◌++◌, Some, None, Option, nat_lt, slice_index}
use Rattle.network.specs.Network.{option_limit, field_limit, no_field, has, Rule}
use Rattle.network.specs.declared.rules.Ends.{Ends}

-- which pairs are kept: option a of field x with option b of field y
abbrev pub Pairs : Type 0
Pairs = ℕ → ℕ → ℕ → ℕ → Bool

-- the place of the pair word of option a of field x towards field y
abbrev pub word_at : ℕ → ℕ → ℕ → ℕ
word_at x a y = (x * option_limit + a) * field_limit + y

-- the pairs that the first n × 512 of a list of pair words stand for; a word past the end counts as 0
abbrev pub pairs_of : ℕ → List ℕ → Pairs
pairs_of n words x a y b = (nat_lt x n && (nat_lt a option_limit && nat_lt y field_limit)) && has (slice_index words (word_at x a y)) b

-- the kept pairs of fields x and y, as one rule
abbrev pub pair_rule : Pairs → ℕ → ℕ → Rule
pair_rule q x y = record { left = x; right = y; allows = λ a b. q x a y b && q y b x a }

-- the same, of two ends
abbrev pub rule_between : Pairs → Ends → Rule
rule_between q ends = pair_rule q ends.left ends.right

-- the rules of x with the `more` fields from y on
abbrev pub rules_from : Pairs → ℕ → ℕ → ℕ → List Rule
rules_from q x y zero = []
rules_from q x y (suc more) = pair_rule q x y ∷ rules_from q x (y + 1) more

-- a rule for each x < y, by rising x, then y: the `more` fields from x on
abbrev pub rules_of : Pairs → ℕ → ℕ → List Rule
rules_of q x zero = []
rules_of q x (suc more) = rules_from q x (x + 1) more ++ rules_of q (x + 1) more

abbrev pub pair_rules : ℕ → Pairs → List Rule
pair_rules n q = rules_of q 0 n

-- how many pairs x < y there are below a number
abbrev pub triangle : ℕ → ℕ
triangle zero = 0
triangle (suc more) = more + triangle more

-- the two fields of rule r among the rules of the `more` fields from x on
abbrev pub pair_from : ℕ → ℕ → ℕ → ℕ × ℕ
pair_from x zero r = (no_field, no_field)
pair_from x (suc more) r = cond (nat_lt r more) (x, x + 1 + r) (pair_from (x + 1) more (r - more))

-- the two fields of rule r of the pair rules of n fields; 255 and 255 past their end
abbrev pub pair_at : ℕ → ℕ → ℕ × ℕ
pair_at n r = pair_from 0 n r

-- how many pair rules of n fields have a left field below x
abbrev pub rules_before : ℕ → ℕ → ℕ
rules_before zero x = 0
rules_before (suc more) zero = 0
rules_before (suc more) (suc x) = more + rules_before more x

-- the place of the rule of fields x < y among the pair rules of n fields
abbrev pub place : ℕ → ℕ → ℕ → ℕ
place n x y = rules_before n x + (y - x - 1)

-- the rules of the pair book for n fields, and no more than there can be
abbrev pub pair_book : ℕ → List ℕ → List Rule
pair_book n words = pair_rules (min field_limit n) (pairs_of (min field_limit n) words)

-- the ends of rule r of the pair rules of n fields, if there is such a rule
abbrev pub PairEnds : ℕ → ℕ → Option Ends → Type 0
PairEnds n r (Some ends) = (r < triangle n) × (pair_at n r ≡ (ends.left, ends.right))
PairEnds n r None = triangle n ≤ r

-- the pair of option a of field x with option b of field y, by its bits in both orders
abbrev pub both_orders : List ℕ → ℕ → ℕ → ℕ → ℕ → Bool
both_orders words x a y b = has (slice_index words (word_at x a y)) b && has (slice_index words (word_at y b x)) a
