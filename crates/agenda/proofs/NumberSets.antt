-- Sets of numbers by the bits of their words.
use Rattle.std.proofs.Common.{◌≡◌, ◌≢◌, ℕ, ◌+◌, ◌-◌, ◌*◌, ◌/◌, ◌%◌, ◌^◌, ◌<◌, ◌≤◌, true, false, eqb, List, length, get_or, set, replicate, Some, None, ap, ◌∙◌, inl, inr, w64, arith}
use lib.Bits.{bit_and, bit_or}
use lib.Count.{count_trailing_zeros}
use Rattle.std.specs.Int.{bit_at}
use Rattle.std.specs.List.{position, position_or_len}
use Rattle.std.proofs.lemmas.Grind.{common_steps}
use Rattle.std.proofs.lemmas.Bool.{cases_eq, cases_lt, eq-eqb}
use Rattle.std.proofs.lemmas.Bool.Decides.{nat_tests}
use Rattle.std.proofs.lemmas.List.{get_or-set_same, get_or-set_other, get_or_past, get_or-replicate}
use Rattle.std.proofs.lemmas.List.Sums.{fails_before_first}
use Rattle.std.proofs.lemmas.List.Quantifiers.{position-Some}
use Rattle.std.proofs.lemmas.Nat.Bits.{bit_at-zero, bit_at-trailing_zeros, bit_at_set_same, bit_at_set_other, bit_at_clear_same, bit_at_clear_other}
use Rattle.network.specs.Network.{has}
use Rattle.agenda.specs.Waiting.{number_limit, Nothing, Same, with_one, without}
use Rattle.agenda.specs.Sequence.{first_of, rising}
use Rattle.agenda.specs.Numbered.{numbers, any_bit}
use Rattle.agenda.specs.declared.numbers.NumberSet.{NumberSet}
use Rattle.agenda.proofs.Risings.{rising_none, rising_first}

-- a word that is 0 holds no number
pub numbers_none : (s : NumberSet) (k : ℕ) → get_or s.words (k / 64) 0 ≡ 0 → numbers s k ≡ false
unfolding numbers
numbers_none s k e = ap (λ w. has w (k % 64)) e ∙ ap (λ b. eqb b 1) (bit_at-zero (k % 64))

-- no number past the last word
pub numbers_within : (s : NumberSet) (k : ℕ) → length s.words ≡ 8 → numbers s k ≡ true → k < number_limit
numbers_within s k size on = grind (arith, numbers_none s k, get_or_past s.words (k / 64) 0)

pub numbers_new : (n : ℕ) → Nothing (numbers (record { words = replicate n 0 }))
numbers_new n k =
    numbers_none (record { words = replicate n 0 }) k
    (elim (cases_lt (k / 64) n) [ inl lt ↦ get_or-replicate n (k / 64) 0 0 lt | inr past ↦ get_or_past (replicate n 0) (k / 64) 0 (grind (arith, common_steps)) ])

-- the word of n becomes v, which differs in the bit of n alone
module _ (ws : List ℕ) (n v : ℕ) (within : n / 64 < length ws)
    (same : (a : ℕ) → a < 64 → a ≢ n % 64 → bit_at v a ≡ bit_at (get_or ws (n / 64) 0) a) where
  here : numbers (record { words = set ws (n / 64) v }) n ≡ eqb (bit_at v (n % 64)) 1
  unfolding numbers
  here = ap (λ w. has w (n % 64)) (get_or-set_same ws (n / 64) v 0 within)

  elsewhere : (k : ℕ) → k ≢ n → numbers (record { words = set ws (n / 64) v }) k ≡ numbers (record { words = ws }) k
  unfolding numbers
  elsewhere k other =
      elim (cases_eq (k / 64) (n / 64)) [
        | inl e ↦ rw (e, get_or-set_same ws (n / 64) v 0 within) (ap (λ b. eqb b 1) (same (k % 64) (omega arith) (λ h. other (omega arith))))
        | inr ne ↦ rw (get_or-set_other ws (n / 64) (k / 64) v 0 ne)
      ]

module _ (ws : List ℕ) (n : ℕ) (within : n / 64 < length ws) where
  pub numbers_insert : Same (with_one (numbers (record { words = ws })) n)
      (numbers (record { words = set ws (n / 64) (bit_or (get_or ws (n / 64) 0) ((1 * 2 ^ (n % 64)) % 2 ^ 64)) }))
  numbers_insert k =
      let w : ℕ = get_or ws (n / 64) 0 in
      let v : ℕ = bit_or w ((1 * 2 ^ (n % 64)) % 2 ^ 64) in
      let others = λ (a : ℕ) (h : a < 64). bit_at_set_other w64 w (n % 64) (omega arith) a in
      grind (arith, nat_tests, here ws n v within others, elsewhere ws n v within others k, bit_at_set_same w64 w (n % 64) (omega arith))

  pub numbers_remove : Same (without (numbers (record { words = ws })) n)
      (numbers (record { words = set ws (n / 64) (bit_and (get_or ws (n / 64) 0) (2 ^ 64 - 1 - (1 * 2 ^ (n % 64)) % 2 ^ 64)) }))
  numbers_remove k =
      let w : ℕ = get_or ws (n / 64) 0 in
      let v : ℕ = bit_and w (2 ^ 64 - 1 - (1 * 2 ^ (n % 64)) % 2 ^ 64) in
      let others = bit_at_clear_other w64 w (n % 64) (omega arith) in
      grind (arith, nat_tests, here ws n v within others, elsewhere ws n v within others k, bit_at_clear_same w64 w (n % 64) (omega arith))

zero_word : (w : ℕ) → any_bit w ≡ false → w ≡ 0
zero_word w e = grind (arith, common_steps)

-- where no word has a bit, no number
pub lowest_none : (s : NumberSet) → length s.words ≡ 8 → position any_bit s.words ≡ None → first_of (rising (numbers s) number_limit) ≡ None
lowest_none s size none =
    let past : length s.words ≤ position_or_len any_bit s.words = grind (arith, common_steps) in
    ap first_of (rising_none (numbers s) 512 (λ k h. numbers_none s k (zero_word (get_or s.words (k / 64) 0) (fails_before_first any_bit s.words (k / 64) 0 (omega arith)))))

-- the lowest bit of the first word that has one
pub lowest_some : (s : NumberSet) (i : ℕ) → length s.words ≡ 8 → position any_bit s.words ≡ Some i → get_or s.words i 0 < 2 ^ 64 →
    (i * 64 + count_trailing_zeros 64 (get_or s.words i 0) < number_limit)
    × (first_of (rising (numbers s) number_limit) ≡ Some (i * 64 + count_trailing_zeros 64 (get_or s.words i 0)))
unfolding numbers
lowest_some s i size at fits =
    let w : ℕ = get_or s.words i 0 in
    let t : ℕ = count_trailing_zeros 64 w in
    let first = position-Some any_bit s.words i 0 at in
    let some : 0 < w = grind (arith, common_steps) in
    let low = bit_at-trailing_zeros w64 w some fits in
    let n : ℕ = i * 64 + t in
    let word : n / 64 ≡ i = omega (arith, low.0) in
    let place : n % 64 ≡ t = omega (arith, low.0) in
    let lt : n < 512 = omega (arith, low.0, first.0) in (
      lt,
      rising_first (numbers s) n 512 lt (rw (word, place) (eq-eqb (bit_at w t) 1 low.1))
          (λ k h. elim (cases_eq (k / 64) i) [
            | inl e ↦ rw e (ap (λ b. eqb b 1) (low.2 (k % 64) (omega (arith, low.0))))
            | inr ne ↦ numbers_none s k (zero_word (get_or s.words (k / 64) 0) (first.2 (k / 64) (omega (arith, low.0))))
          ]),
    )
