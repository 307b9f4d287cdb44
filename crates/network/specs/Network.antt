-- Sets of options, rules between two fields, and the largest arc-consistent part.
use Rattle.std.specs.Prelude.{◌≡◌, ℕ, ◌/◌, ◌%◌, ◌^◌, ◌<◌, Bool, false, T, List, map, length, ◌||◌, ◌==◌, nat_le, slice_index, slice_index_or}
use Rattle.network.specs.declared.options.OptionSet.{OptionSet}

-- how many options a field can have; they are numbered from 0
abbrev pub option_limit : ℕ
option_limit = 32

-- how many fields there can be; they are numbered from 0
abbrev pub field_limit : ℕ
field_limit = 16

-- how many rules an opening can have
abbrev pub rule_limit : ℕ
rule_limit = 128

-- stands for a field where there is none
abbrev pub no_field : ℕ
no_field = 255

-- one of two ends is not among n fields, or they are one
abbrev pub no_fields : ℕ → ℕ → ℕ → Bool
no_fields n left right = nat_le n left || (nat_le n right || left == right)

-- whether option a is in the set w: bit a of the word, counted from the lowest
abbrev pub has : ℕ → ℕ → Bool
has w a = (w / 2 ^ a) % 2 == 1

-- the words of a list of sets
abbrev pub words : List OptionSet → List ℕ
words = map (λ s. s.word)

-- a rule has a left and a right field, and allows some pairs of options, the left option first
pub record Rule : Type 0 where
  pub left : ℕ
  pub right : ℕ
  pub allows : ℕ → ℕ → Bool

-- a part says which options of which fields are kept: field first, then option
abbrev pub Part : Type 0
Part = ℕ → ℕ → Bool

-- the part that a list of set words stands for, one word for each field
abbrev pub part : List ℕ → Part
part sets x a = has (slice_index sets x) a

-- p keeps nothing that q does not keep
abbrev pub Within : Part → Part → Type 0
Within p q = (x a : ℕ) → T (p x a) → T (q x a)

-- what stands for a rule that is not in a list
abbrev pub no_rule : Rule
no_rule = record { left = no_field; right = no_field; allows = λ _ _. false }

-- rule r of a list, numbered from 0
abbrev pub rule_at : List Rule → ℕ → Rule
rule_at rules r = slice_index_or rules r no_rule

-- option a of the left field has a partner that p keeps on the right: its support
abbrev pub PartnerRight : Part → Rule → ℕ → Type 0
PartnerRight p rule a = (b : ℕ) × (T (rule.allows a b) × T (p rule.right b))

-- option b of the right field has a partner that p keeps on the left
abbrev pub PartnerLeft : Part → Rule → ℕ → Type 0
PartnerLeft p rule b = (a : ℕ) × (T (rule.allows a b) × T (p rule.left a))

-- each kept option has, under every rule of its field, a kept partner on the other side
pub record ArcConsistent (rules : List Rule) (p : Part) : Type 0 where
  pub on_left : (r a : ℕ) → r < length rules → T (p (rule_at rules r).left a) → PartnerRight p (rule_at rules r) a
  pub on_right : (r b : ℕ) → r < length rules → T (p (rule_at rules r).right b) → PartnerLeft p (rule_at rules r) b

-- the largest arc-consistent part of a part, the union of all of them, keeps option a of field x
abbrev pub InLargest : List Rule → Part → ℕ → ℕ → Type 0
InLargest rules whole x a = (p : Part) × (Within p whole × (ArcConsistent rules p × T (p x a)))

-- q is the largest arc-consistent part of p
pub record Largest (rules : List Rule) (p q : Part) : Type 0 where
  pub all : (x a : ℕ) → T (q x a) → InLargest rules p x a
  pub only : (x a : ℕ) → InLargest rules p x a → T (q x a)

-- a book is no stricter than another: each of its rules has a rule in the other with the same ends that allows no pair which it forbids
abbrev pub NoStricter : List Rule → List Rule → Type 0
NoStricter loose tight =
    (r : ℕ) → r < length loose → (q : ℕ) × ((q < length tight) × (((rule_at loose r).left ≡ (rule_at tight q).left) × (((rule_at loose r).right ≡ (rule_at tight q).right) × ((a b : ℕ) → T ((rule_at tight q).allows a b) → T ((rule_at loose r).allows a b)))))
