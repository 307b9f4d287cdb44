-- Pair words: what a write into one does to the pairs, masks of set words, and the sets that a probe starts from.
use Rattle.std.proofs.Common.{◌≡◌, ℕ, ◌-◌, ◌*◌, ◌/◌, ◌%◌, ◌^◌, ◌<◌, ◌≤◌, Bool, true, false, cond, not, ◌&&◌, T, eqb, ltb, List, length, get_or, set, sym, refl, ap, ◌∙◌, subst, ⊎_elim, arith, ltb→lt}
use lib.Dec.{eqb_refl}
use lib.Bits.{bit_and}
use Rattle.std.proofs.lemmas.List.{get_or-set_same, get_or-set_other}
use Rattle.std.proofs.lemmas.Bool.{cases_lt, cases_eq, cases_Bool, eq-eqb, ne_eqb, lt-ltb}
use Rattle.std.proofs.lemmas.Grind.{common_steps}
use Rattle.network.specs.Network.{has, Rule, Part, part, InLargest, Largest}
use Rattle.propagation.specs.Opening.{Accepted, IsWipedOut}
use Rattle.books.specs.Pairs.{Pairs, word_at, pairs_of, pair_rules}
use Rattle.tightening.specs.Tightening.{narrowed}
use Rattle.network.proofs.Truth.{yes_T, T_yes, T_no, T_left, T_right, and_true, and_false}
use Rattle.network.proofs.Bits.{has_less, has_pow, has_and, has_ones, has_none, same_bits}
use Rattle.propagation.proofs.Strikes.{is_field, part_same, part_other}
use Rattle.books.proofs.Pairing.{rules_length, triangle_few, left_at, right_at, ends_order, ends_below}

-- `w & !(1 << a)` at k bits
pub has_clear : (k w a b : ℕ) → w < 2 ^ k → a < k → has (bit_and w (2 ^ k - 1 - 2 ^ a)) b ≡ (has w b && not (eqb b a))
has_clear k w a b h l =
    has_and w (2 ^ k - 1 - 2 ^ a) b
    ∙ ap (λ t. has w b && t) (has_less (2 ^ k - 1) a b (T_yes _ (has_ones k a ∙ lt-ltb a k l)) ∙ ap (λ t. t && not (eqb b a)) (has_ones k b))
    ∙ ⊎_elim
    (λ (lt : b < k). ap (λ t. has w b && (t && not (eqb b a))) (lt-ltb b k lt))
    (λ (ge : k ≤ b). let e = has_none k w b h ge in ap (λ t. t && (ltb b k && not (eqb b a))) e ∙ ap (λ t. t && not (eqb b a)) (sym e))
    (cases_lt b k)

-- PLACES
pub word_below : (n x a y : ℕ) → x < n → a < 32 → y < 16 → word_at x a y < n * 512
word_below n x a y h k l = omega arith

pub word_apart : (x a y z c v : ℕ) → a < 32 → c < 32 → y < 16 → v < 16 → word_at x a y ≡ word_at z c v → (x ≡ z) × ((a ≡ c) × (y ≡ v))
word_apart x a y z c v h k l m e = (omega arith, (omega arith, omega arith))

guard_out : (g h : Bool) → (T g → ⊥) → (g && h) ≡ false
guard_out true h f = absurd (f tt)
guard_out false h f = refl

-- the pairs of words with a place are those of the word there
pub pairs_at : (n : ℕ) (words : List ℕ) (x a y b : ℕ) → x < n → a < 32 → y < 16 → pairs_of n words x a y b ≡ has (get_or words (word_at x a y) 0) b
pairs_at n words x a y b h k l = grind (arith, common_steps)

-- what a pair tells of its numbers
pub record InRange (n x a y : ℕ) : Type 0 where
  pub first : x < n
  pub option : a < 32
  pub second : y < 16

pub pairs_range : (n : ℕ) (words : List ℕ) (x a y b : ℕ) → T (pairs_of n words x a y b) → InRange n x a y
pairs_range n words x a y b t = grind (arith, common_steps)

-- a write into one pair word
pub pairs_put_same : (n : ℕ) (words : List ℕ) (x a y v b : ℕ) → x < n → a < 32 → y < 16 → word_at x a y < length words
    → pairs_of n (set words (word_at x a y) v) x a y b ≡ has v b
pairs_put_same n words x a y v b h k l m =
    pairs_at n (set words (word_at x a y) v) x a y b h k l ∙ ap (λ w. has w b) (get_or-set_same words (word_at x a y) v 0 m)

pub pairs_put_other : (n : ℕ) (words : List ℕ) (x a y v z c u b : ℕ) → a < 32 → y < 16 → (z ≡ x → c ≡ a → u ≡ y → ⊥)
    → pairs_of n (set words (word_at x a y) v) z c u b ≡ pairs_of n words z c u b
pairs_put_other n words x a y v z c u b k l ne =
    ⊎_elim
    (λ g. let r = T_yes _ g in
    let q = T_right (ltb z n) _ r in
    let i : c < 32 = ltb→lt c 32 (T_left (ltb c 32) _ q) in
    let j : u < 16 = ltb→lt u 16 (T_right (ltb c 32) _ q) in
    ap (λ w. (ltb z n && (ltb c 32 && ltb u 16)) && has w b)
    (get_or-set_other words (word_at x a y) (word_at z c u) v 0
    (λ e. let s = word_apart z c u x a y i k j l e in ne s.0 s.1.0 s.1.1)))
    (λ g. guard_out _ _ (T_no _ g) ∙ sym (guard_out _ _ (T_no _ g)))
    (cases_Bool (ltb z n && (ltb c 32 && ltb u 16)))

-- a write that keeps of the word's bits those that f tells
pub pairs_written : (n : ℕ) (words : List ℕ) (x a y v : ℕ) (f : ℕ → Bool) → x < n → a < 32 → y < 16 → word_at x a y < length words
    → ((b : ℕ) → has v b ≡ (has (get_or words (word_at x a y) 0) b && f b))
    → (z c u b : ℕ) → pairs_of n (set words (word_at x a y) v) z c u b ≡ (pairs_of n words z c u b && cond (eqb z x && (eqb c a && eqb u y)) (f b) true)
pairs_written n words x a y v f h k l m is z c u b = grind (arith, common_steps)

-- `words[i] &= keep`, and `words[i] &= !(1 << d)`
pub pairs_masked : (n : ℕ) (words : List ℕ) (x a y keep : ℕ) → x < n → a < 32 → y < 16 → word_at x a y < length words
    → (z c u b : ℕ) → pairs_of n (set words (word_at x a y) (bit_and (get_or words (word_at x a y) 0) keep)) z c u b
    ≡ (pairs_of n words z c u b && cond (eqb z x && (eqb c a && eqb u y)) (has keep b) true)
pairs_masked n words x a y keep h k l m =
    pairs_written n words x a y (bit_and (get_or words (word_at x a y) 0) keep) (has keep) h k l m (has_and (get_or words (word_at x a y) 0) keep)

pub pairs_cleared : (n : ℕ) (words : List ℕ) (x a y d : ℕ) → x < n → a < 32 → y < 16 → word_at x a y < length words → d < 32 → get_or words (word_at x a y) 0 < 2 ^ 32
    → (z c u b : ℕ) → pairs_of n (set words (word_at x a y) (bit_and (get_or words (word_at x a y) 0) (2 ^ 32 - 1 - 2 ^ d))) z c u b
    ≡ (pairs_of n words z c u b && cond (eqb z x && (eqb c a && eqb u y)) (not (eqb b d)) true)
pairs_cleared n words x a y d h k l m i fit =
    pairs_written n words x a y (bit_and (get_or words (word_at x a y) 0) (2 ^ 32 - 1 - 2 ^ d)) (λ b. not (eqb b d)) h k l m
    (λ b. has_clear 32 (get_or words (word_at x a y) 0) d b fit i)

-- a word outside the first n × 512 tells no pair
pub pairs_put_beyond : (n : ℕ) (words : List ℕ) (i v z c u b : ℕ) → n * 512 ≤ i → pairs_of n (set words i v) z c u b ≡ pairs_of n words z c u b
pairs_put_beyond n words i v z c u b l =
    ⊎_elim
    (λ g. let r = T_yes _ g in
    let q = T_right (ltb z n) _ r in
    let k : c < 32 = ltb→lt c 32 (T_left (ltb c 32) _ q) in
    let j : u < 16 = ltb→lt u 16 (T_right (ltb c 32) _ q) in
    let h : z < n = ltb→lt z n (T_left (ltb z n) _ r) in
    ap (λ w. (ltb z n && (ltb c 32 && ltb u 16)) && has w b) (get_or-set_other words i (word_at z c u) v 0 (λ e. omega arith)))
    (λ g. guard_out _ _ (T_no _ g) ∙ sym (guard_out _ _ (T_no _ g)))
    (cases_Bool (ltb z n && (ltb c 32 && ltb u 16)))

-- each of the first n × 512 words is that of some x, a and y
pub word_parts : (i : ℕ) → word_at (i / 512) (i / 16 % 32) (i % 16) ≡ i
word_parts i = omega arith

-- the pairs tell the words
pub same_words : (n : ℕ) (words words' : List ℕ) → ((i : ℕ) → get_or words i 0 < 2 ^ 32) → ((i : ℕ) → get_or words' i 0 < 2 ^ 32)
    → ((x a y b : ℕ) → pairs_of n words x a y b ≡ pairs_of n words' x a y b)
    → (i : ℕ) → i < n * 512 → get_or words i 0 ≡ get_or words' i 0
same_words n words words' fit fit' e i l =
    let x = i / 512 in
    let a = i / 16 % 32 in
    let y = i % 16 in
    let h : x < n = omega arith in
    let k : a < 32 = omega arith in
    let m : y < 16 = omega arith in
    subst (λ j. get_or words j 0 ≡ get_or words' j 0) (word_parts i)
    (same_bits 32 (get_or words (word_at x a y) 0) (get_or words' (word_at x a y) 0) (fit (word_at x a y)) (fit' (word_at x a y))
    (λ b. sym (pairs_at n words x a y b h k m) ∙ e x a y b ∙ pairs_at n words' x a y b h k m))

-- A PROBE'S SETS
pub narrowed_words : (cur : List ℕ) (x a y b : ℕ) → T (part cur x a) → part (set cur x (2 ^ a)) y b ≡ narrowed (part cur) x a y b
narrowed_words cur x a y b t =
    ⊎_elim
    (λ e. ap (λ z. part (set cur x (2 ^ a)) z b) (sym e) ∙ part_same cur x (2 ^ a) b (is_field cur x a t) ∙ has_pow a b
    ∙ ⊎_elim
    (λ s. eq-eqb b a s ∙ sym (ap (λ v. v && cond (eqb x x) (eqb a b) true) (yes_T (part cur x b) (subst (λ c. T (part cur x c)) (sym s) t))
    ∙ ap (λ v. cond v (eqb a b) true) (yes_T (eqb x x) (eqb_refl x)) ∙ eq-eqb a b (sym s)))
    (λ d. ne_eqb b a d ∙ sym (ap (λ v. part cur x b && cond v (eqb a b) true) (yes_T (eqb x x) (eqb_refl x))
    ∙ ap (λ v. part cur x b && v) (ne_eqb a b (λ s. d (sym s))) ∙ and_false (part cur x b)))
    (cases_eq b a)
    ∙ ap (λ z. narrowed (part cur) x a z b) e)
    (λ ne. part_other cur x (2 ^ a) y b (λ e. ne (sym e)) ∙ sym (ap (λ v. part cur y b && cond v (eqb a b) true) (ne_eqb x y ne) ∙ and_true (part cur y b)))
    (cases_eq x y)

-- the same options have the same largest part
pub in_largest_same : (rules : List Rule) (p p' : Part) → ((x a : ℕ) → p x a ≡ p' x a) → (x a : ℕ) → InLargest rules p x a → InLargest rules p' x a
in_largest_same rules p p' e x a i = (i.0, (λ y b t. subst T (e y b) (i.1.0 y b t), i.1.1))

pub largest_same : (rules : List Rule) (p p' l : Part) → ((x a : ℕ) → p x a ≡ p' x a) → Largest rules p l → Largest rules p' l
largest_same rules p p' l e h = record {
  all = λ x a t. in_largest_same rules p p' e x a (h.all x a t);
  only = λ x a i. h.only x a (in_largest_same rules p' p (λ y b. sym (e y b)) x a i);
}

pub wiped_same : (rules : List Rule) (n : ℕ) (p p' : Part) → ((x a : ℕ) → p x a ≡ p' x a) → IsWipedOut rules n p → IsWipedOut rules n p'
wiped_same rules n p p' e w = (w.0, (w.1.0, λ a i. w.1.1 a (in_largest_same rules p' p (λ y b. sym (e y b)) w.0 a i)))

-- what a settle of the narrowed sets tells of the probe
pub probe_settled : (rules : List Rule) (cur : List ℕ) (x a : ℕ) (l : Part) → T (part cur x a) → Largest rules (part (set cur x (2 ^ a))) l → Largest rules (narrowed (part cur) x a) l
probe_settled rules cur x a l t = largest_same rules _ _ l (λ y b. narrowed_words cur x a y b t)

pub probe_wiped : (rules : List Rule) (n : ℕ) (cur : List ℕ) (x a : ℕ) → T (part cur x a) → IsWipedOut rules n (part (set cur x (2 ^ a))) → IsWipedOut rules n (narrowed (part cur) x a)
probe_wiped rules n cur x a t = wiped_same rules n _ _ (λ y b. narrowed_words cur x a y b t)

-- sets over the pair rules of their fields make an accepted opening
pub pair_accepted : (sets : List ℕ) (q : Pairs) → 0 < length sets → length sets ≤ 16 → ((x : ℕ) → get_or sets x 0 < 2 ^ 32)
    → ((x : ℕ) → x < length sets → 0 < get_or sets x 0) → Accepted (pair_rules (length sets) q) sets
pair_accepted sets q some few fit filled = grind (arith, common_steps, ends_below, ends_order, left_at, right_at, rules_length, triangle_few)
