-- The bits of a set word: which options it has, what taking one away leaves, and that the bits tell the word.
use Rattle.std.proofs.Common.{◌≡◌, ℕ, zero, suc, ◌+◌, ◌-◌, ◌*◌, ◌/◌, ◌%◌, ◌^◌, ◌<◌, ◌≤◌, min, max, false, not, ◌&&◌, ◌||◌, T, eqb, ltb, leb, ◌⊎◌, sym, refl, ap, ◌∙◌, subst, inl, inr, ⊎_elim, pow-suc, one-add, arith, eqb→eq}
use lib.Bits.{bit_and, bit_or, and_step, or_step, and_mask, shifted_half, shifted_even}
use lib.Dec.{leb-zero, leb-suc-zero, leb-suc-suc, eqb-zero-suc, eqb-suc-zero, eqb-suc-suc}
use lib.Count.{ones, ones_step, count_trailing_zeros, under}
use Rattle.std.proofs.lemmas.Nat.{shr-shr, pow_pos, pow_below}
use Rattle.std.proofs.lemmas.Bool.{eq-eqb, ne_eqb, eqb-true, eqb-false, cases_eq, cases_lt, lt-ltb, le-ltb}
use Rattle.network.specs.Network.{has}
use Rattle.network.proofs.Truth.{no_T, and_true, and_false}

pub has_step : (w a : ℕ) → has w (suc a) ≡ has (w / 2) a
has_step w a = ap (λ k. eqb ((w / 2 ^ k) % 2) 1) (sym (one-add a)) ∙ ap (λ n. eqb (n % 2) 1) (sym (shr-shr w 1 a))

-- words with the same lowest bit
low_bit : (v w : ℕ) → v % 2 ≡ w % 2 → has v 0 ≡ has w 0
low_bit v w e = let h : (v / 1) % 2 ≡ (w / 1) % 2 = omega arith in ap (λ n. eqb n 1) h

pub has_le : (w a : ℕ) → T (has w a) → 2 ^ a ≤ w
has_le w zero t = omega (arith, eqb→eq ((w / 1) % 2) 1 t)
has_le w (suc a) t = let h = has_le (w / 2) a (subst T (has_step w a) t) in omega (arith, pow-suc 2 a)

pub none_of_zero : (a : ℕ) → has 0 a ≡ false
none_of_zero zero = refl
none_of_zero (suc a) = has_step 0 a ∙ none_of_zero a

pub has_pow : (a b : ℕ) → has (2 ^ a) b ≡ eqb b a
has_pow zero zero = refl
has_pow zero (suc b) = has_step 1 b ∙ none_of_zero b ∙ sym (eqb-suc-zero b)
has_pow (suc a) zero = low_bit (2 ^ suc a) 0 (omega (arith, pow-suc 2 a)) ∙ sym (eqb-zero-suc a)
has_pow (suc a) (suc b) =
    let half : 2 ^ suc a / 2 ≡ 2 ^ a = omega (arith, pow-suc 2 a) in
    has_step (2 ^ suc a) b ∙ ap (λ n. has n b) half ∙ has_pow a b ∙ sym (eqb-suc-suc b a)

-- a set less one of its options
pub has_less : (w a b : ℕ) → T (has w a) → has (w - 2 ^ a) b ≡ (has w b && not (eqb b a))
has_less w zero zero t =
    let odd = eqb→eq ((w / 1) % 2) 1 t in
    low_bit (w - 1) 0 (omega arith) ∙ sym (and_false (has w 0))
has_less w zero (suc b) t =
    let odd = eqb→eq ((w / 1) % 2) 1 t in
    let half : (w - 1) / 2 ≡ w / 2 = omega arith in
    has_step (w - 1) b ∙ ap (λ n. has n b) half ∙ sym (has_step w b) ∙ sym (and_true (has w (suc b))) ∙ ap (λ v. has w (suc b) && not v) (sym (eqb-suc-zero b))
has_less w (suc a) zero t =
    let h = has_le w (suc a) t in
    low_bit (w - 2 ^ suc a) w (omega (arith, pow-suc 2 a)) ∙ sym (and_true (has w 0)) ∙ ap (λ v. has w 0 && not v) (sym (eqb-zero-suc a))
has_less w (suc a) (suc b) t =
    let s = subst T (has_step w a) t in
    let h = has_le w (suc a) t in
    let half : (w - 2 ^ suc a) / 2 ≡ w / 2 - 2 ^ a = omega (arith, pow-suc 2 a) in
    has_step (w - 2 ^ suc a) b ∙ ap (λ n. has n b) half ∙ has_less (w / 2) a b s ∙ ap (λ v. v && not (eqb b a)) (sym (has_step w b)) ∙ ap (λ v. has w (suc b) && not v) (sym (eqb-suc-suc b a))

pub ones_less : (w a : ℕ) → T (has w a) → ones (w - 2 ^ a) + 1 ≡ ones w
ones_less w zero t =
    let odd = eqb→eq ((w / 1) % 2) 1 t in
    let half : (w - 1) / 2 ≡ w / 2 = omega arith in
    omega (arith, ones_step (w - 1), ones_step w, ap ones half)
ones_less w (suc a) t =
    let h = has_le w (suc a) t in
    let half : (w - 2 ^ suc a) / 2 ≡ w / 2 - 2 ^ a = omega (arith, pow-suc 2 a) in
    let low : (w - 2 ^ suc a) % 2 ≡ w % 2 = omega (arith, pow-suc 2 a) in
    let rest = ones_less (w / 2) a (subst T (has_step w a) t) in
    omega (arith, ones_step (w - 2 ^ suc a), ones_step w, ap ones half)

-- the bits tell the word
pub same_bits : (k v w : ℕ) → v < 2 ^ k → w < 2 ^ k → ((b : ℕ) → has v b ≡ has w b) → v ≡ w
same_bits zero v w h l e = omega arith
same_bits (suc k) v w h l e =
    let half = same_bits k (v / 2) (w / 2) (omega (arith, pow-suc 2 k)) (omega (arith, pow-suc 2 k)) (λ b. sym (has_step v b) ∙ e (suc b) ∙ has_step w b) in
    let low : v % 2 ≡ w % 2 =
    ⊎_elim (λ p. let q = eqb-true ((w / 1) % 2) 1 (sym (e 0) ∙ eq-eqb ((v / 1) % 2) 1 p) in omega arith)
    (λ p. let q = eqb-false ((w / 1) % 2) 1 (sym (e 0) ∙ ne_eqb ((v / 1) % 2) 1 p) in omega arith)
    (cases_eq ((v / 1) % 2) 1) in
    omega arith

pub some_bit : (k w : ℕ) → w < 2 ^ k → 0 < w → (a : ℕ) × T (has w a)
some_bit zero w h p = absurd (omega arith)
some_bit (suc k) w h p =
    ⊎_elim (λ q. (0, subst (λ n. T (eqb n 1)) (sym q) tt))
    (λ q. let r = some_bit k (w / 2) (omega (arith, pow-suc 2 k)) (omega arith) in (suc r.0, subst T (sym (has_step w r.0)) r.1))
    (cases_eq ((w / 1) % 2) 1)

-- the bits of 2 ^ k - 1
pub has_ones : (k b : ℕ) → has (2 ^ k - 1) b ≡ ltb b k
has_ones zero b = none_of_zero b ∙ sym (le-ltb b 0 (omega arith))
has_ones (suc k) zero =
    let odd : ((2 ^ suc k - 1) / 1) % 2 ≡ 1 = omega (arith, pow-suc 2 k, pow_pos k) in
    eq-eqb _ _ odd ∙ sym (lt-ltb 0 (suc k) (omega arith))
has_ones (suc k) (suc b) =
    let half : (2 ^ suc k - 1) / 2 ≡ 2 ^ k - 1 = omega (arith, pow-suc 2 k, pow_pos k) in
    has_step (2 ^ suc k - 1) b ∙ ap (λ n. has n b) half ∙ has_ones k b
    ∙ ⊎_elim (λ l. lt-ltb b k l ∙ sym (lt-ltb (suc b) (suc k) (omega arith))) (λ l. le-ltb b k l ∙ sym (le-ltb (suc b) (suc k) (omega arith))) (cases_lt b k)

-- a word of k bits has no option from k on
pub has_none : (k w b : ℕ) → w < 2 ^ k → k ≤ b → has w b ≡ false
has_none k w b h l =
    no_T (has w b) (λ t.
    let m = has_le w b t in
    ⊎_elim (λ (lt : k < b). let p = pow_below k b lt in omega arith)
    (λ (ge : b ≤ k). let e : b ≡ k = omega arith in let p = ap (λ i. 2 ^ i) e in omega arith) (cases_lt k b))

pub has_below : (k w b : ℕ) → w < 2 ^ k → T (has w b) → b < k
has_below k w b h t = ⊎_elim (λ (l : b < k). l) (λ (l : k ≤ b). absurd (subst T (has_none k w b h l) t)) (cases_lt b k)

-- what both sets have, and what either has
pub has_and : (v w b : ℕ) → has (bit_and v w) b ≡ (has v b && has w b)
has_and v w zero = and_low ((v / 1) % 2) ((w / 1) % 2) ((bit_and v w / 1) % 2) (omega arith) (omega arith) (let s = and_step v w in omega arith)
  where
    and_low : (i j k : ℕ) → i < 2 → j < 2 → k ≡ min i j → eqb k 1 ≡ (eqb i 1 && eqb j 1)
    and_low zero j k h l e = let is : k ≡ 0 = omega arith in ap (λ m. eqb m 1) is
    and_low (suc zero) zero k h l e = ap (λ m. eqb m 1) e
    and_low (suc zero) (suc zero) k h l e = ap (λ m. eqb m 1) e
    and_low (suc zero) (suc (suc j)) k h l e = absurd (omega arith)
    and_low (suc (suc i)) j k h l e = absurd (omega arith)
has_and v w (suc b) =
    let half : bit_and v w / 2 ≡ bit_and (v / 2) (w / 2) = let s = and_step v w in omega arith in
    has_step (bit_and v w) b ∙ ap (λ n. has n b) half ∙ has_and (v / 2) (w / 2) b ∙ ap (λ t. t && has (w / 2) b) (sym (has_step v b)) ∙ ap (λ t. has v (suc b) && t) (sym (has_step w b))

pub has_or : (v w b : ℕ) → has (bit_or v w) b ≡ (has v b || has w b)
has_or v w zero = or_low ((v / 1) % 2) ((w / 1) % 2) ((bit_or v w / 1) % 2) (omega arith) (omega arith) (let s = or_step v w in omega arith)
  where
    or_low : (i j k : ℕ) → i < 2 → j < 2 → k ≡ max i j → eqb k 1 ≡ (eqb i 1 || eqb j 1)
    or_low zero j k h l e = let is : k ≡ j = omega arith in ap (λ m. eqb m 1) is
    or_low (suc zero) j k h l e = let is : k ≡ 1 = omega arith in ap (λ m. eqb m 1) is
    or_low (suc (suc i)) j k h l e = absurd (omega arith)
has_or v w (suc b) =
    let half : bit_or v w / 2 ≡ bit_or (v / 2) (w / 2) = let s = or_step v w in omega arith in
    has_step (bit_or v w) b ∙ ap (λ n. has n b) half ∙ has_or (v / 2) (w / 2) b ∙ ap (λ t. t || has (w / 2) b) (sym (has_step v b)) ∙ ap (λ t. has v (suc b) || t) (sym (has_step w b))

-- a mask takes no option away, or leaves fewer
pub ones_and : (k v w : ℕ) → v < 2 ^ k → (bit_and v w ≡ v) ⊎ (ones (bit_and v w) < ones v)
ones_and zero v w h = inl (let s = and_step v w in let n : v ≡ 0 = omega arith in subst (λ u. bit_and u w ≡ u) (sym n) (let s = and_step 0 w in refl))
ones_and (suc k) v w h =
    let s = and_step v w in
    let half : bit_and v w / 2 ≡ bit_and (v / 2) (w / 2) = omega arith in
    let here = ones_step (bit_and v w) in
    let there = ones_step v in
    let halves = ap ones half in
    ⊎_elim
    (λ e. let f = ap ones e in
    ⊎_elim (λ (low : v % 2 ≤ w % 2). inl (omega arith)) (λ (low : w % 2 < v % 2). inr (omega arith)) (cases_le (v % 2) (w % 2)))
    (λ l. inr (omega arith))
    (ones_and k (v / 2) (w / 2) (omega (arith, pow-suc 2 k)))
  where
    cases_le : (i j : ℕ) → (i ≤ j) ⊎ (j < i)
    cases_le i j = ⊎_elim (λ h. inr h) (λ h. inl h) (cases_lt j i)

-- the options below n, and those from n on
pub has_low : (w n b : ℕ) → has (w % 2 ^ n) b ≡ (has w b && ltb b n)
has_low w n b = ap (λ v. has v b) (sym (and_mask w n)) ∙ has_and w (2 ^ n - 1) b ∙ ap (λ t. has w b && t) (has_ones n b)

pub has_high : (w n b : ℕ) → has (w / 2 ^ n * 2 ^ n) b ≡ (has w b && leb n b)
has_high w zero b =
    let same : w / 1 * 1 ≡ w = omega arith in
    ap (λ v. has v b) same ∙ sym (and_true (has w b)) ∙ ap (λ t. has w b && t) (sym (leb-zero b))
has_high w (suc n) zero =
    low_bit (w / 2 ^ suc n * 2 ^ suc n) 0 (shifted_even (w / 2 ^ suc n) n) ∙ sym (and_false (has w 0)) ∙ ap (λ t. has w 0 && t) (sym (leb-suc-zero n))
has_high w (suc n) (suc b) =
    let quotient : w / 2 ^ suc n ≡ w / 2 / 2 ^ n = ap (λ k. w / 2 ^ k) (sym (one-add n)) ∙ sym (shr-shr w 1 n) in
    let half : w / 2 ^ suc n * 2 ^ suc n / 2 ≡ w / 2 / 2 ^ n * 2 ^ n = shifted_half (w / 2 ^ suc n) n ∙ ap (λ q. q * 2 ^ n) quotient in
    has_step (w / 2 ^ suc n * 2 ^ suc n) b ∙ ap (λ v. has v b) half ∙ has_high (w / 2) n b
    ∙ ap (λ t. t && leb n b) (sym (has_step w b)) ∙ ap (λ t. has w (suc b) && t) (sym (leb-suc-suc n b))

-- the trailing zeros of a set that is not empty are the lowest option in it
pub trailing_lowest : (k w : ℕ) → w < 2 ^ k → 0 < w → T (has w (count_trailing_zeros k w)) × ((b : ℕ) → b < count_trailing_zeros k w → has w b ≡ false)
unfolding count_trailing_zeros
trailing_lowest zero w h p = absurd (omega arith)
trailing_lowest (suc k) w h p =
    ⊎_elim
    (λ (even : w % 2 ≡ 0).
    let rest = trailing_lowest k (w / 2) (omega (arith, pow-suc 2 k)) (omega arith) in
    subst (λ d. T (has w (under d (count_trailing_zeros k (w / 2)))) × ((b : ℕ) → b < under d (count_trailing_zeros k (w / 2)) → has w b ≡ false)) (sym even)
    (subst T (sym (has_step w (count_trailing_zeros k (w / 2)))) rest.0, above_even w (count_trailing_zeros k (w / 2)) even rest.1))
    (λ (ne : w % 2 ≡ 0 → ⊥).
    let odd : w % 2 ≡ 1 = omega arith in
    subst (λ d. T (has w (under d (count_trailing_zeros k (w / 2)))) × ((b : ℕ) → b < under d (count_trailing_zeros k (w / 2)) → has w b ≡ false)) (sym odd)
    (subst T (sym (low_bit w 1 odd)) tt, λ b l. absurd (omega arith)))
    (cases_eq (w % 2) 0)
  where
    above_even : (w n : ℕ) → w % 2 ≡ 0 → ((b : ℕ) → b < n → has (w / 2) b ≡ false) → (b : ℕ) → b < suc n → has w b ≡ false
    above_even w n e f zero l = low_bit w 0 e
    above_even w n e f (suc b) l = has_step w b ∙ f b (omega arith)
