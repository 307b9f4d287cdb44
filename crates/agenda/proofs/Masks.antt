-- Bits of words: the complement of a mask, and the bits below the lowest that is set.
use Rattle.std.proofs.Common.{◌≡◌, ℕ, zero, suc, ◌-◌, ◌*◌, ◌/◌, ◌%◌, ◌^◌, ◌<◌, Bool, true, false, not, eqb, ◌⊎◌, ap, ◌∙◌, sym, subst, inl, inr, ⊎_elim, pow-suc, arith}
use lib.Count.{count_trailing_zeros, under}
use Rattle.std.proofs.lemmas.Bool.{eq-eqb, ne_eqb, cases_eq}
use Rattle.network.specs.Network.{has}
use Rattle.network.proofs.Bits.{has_step}

-- the lowest bit, and the others
low : ℕ → Bool
low w = eqb (w % 2) 1

has_zero : (w : ℕ) → has w 0 ≡ low w
unfolding low
has_zero w = let e : (w / 1) % 2 ≡ w % 2 = omega arith in ap (λ n. eqb n 1) e

-- a lowest bit by its two values
low_cases : (w : ℕ) → ((w % 2 ≡ 1) × (low w ≡ true)) ⊎ ((w % 2 ≡ 0) × (low w ≡ false))
unfolding low
low_cases w =
    ⊎_elim (λ e. inl (e, eq-eqb (w % 2) 1 e)) (λ ne. inr (omega arith, ne_eqb (w % 2) 1 ne)) (cases_eq (w % 2) 1)

-- the complement of a mask of k bits
pub has_not : (k m a : ℕ) → m < 2 ^ k → a < k → has (2 ^ k - 1 - m) a ≡ not (has m a)
has_not zero m a fits lt = absurd (omega arith)
has_not (suc k) m zero fits lt =
    let n : ℕ = 2 ^ suc k - 1 - m in
    let e : 2 ^ suc k ≡ 2 ^ k * 2 = pow-suc 2 k in
    has_zero n ∙ elim (low_cases m) [
      | inl p ↦ elim (low_cases n) [ inl r ↦ absurd (omega arith) | inr r ↦ r.1 ∙ rw (has_zero m, p.1) ]
      | inr p ↦ elim (low_cases n) [ inl r ↦ r.1 ∙ rw (has_zero m, p.1) | inr r ↦ absurd (omega arith) ]
    ]
has_not (suc k) m (suc a) fits lt =
    let e : 2 ^ suc k ≡ 2 ^ k * 2 = pow-suc 2 k in
    let half : (2 ^ suc k - 1 - m) / 2 ≡ 2 ^ k - 1 - m / 2 = omega arith in
    has_step (2 ^ suc k - 1 - m) a ∙ ap (λ n. has n a) half ∙ has_not k (m / 2) a (omega arith) (omega arith) ∙ ap not (sym (has_step m a))

-- no bit below the trailing zeros is set
pub trailing_none : (k w a : ℕ) → a < count_trailing_zeros k w → has w a ≡ false
unfolding count_trailing_zeros
trailing_none zero w a lt = absurd (omega arith)
trailing_none (suc k) w zero lt =
    elim (low_cases w) [
      | inl p ↦ absurd (let none = subst (λ d. 0 < under d (count_trailing_zeros k (w / 2))) p.0 lt in omega arith)
      | inr p ↦ has_zero w ∙ p.1
    ]
trailing_none (suc k) w (suc a) lt =
    elim (low_cases w) [
      | inl p ↦ absurd (let none = subst (λ d. suc a < under d (count_trailing_zeros k (w / 2))) p.0 lt in omega arith)
      | inr p ↦ let more = subst (λ d. suc a < under d (count_trailing_zeros k (w / 2))) p.0 lt in has_step w a ∙ trailing_none k (w / 2) a (omega arith)
    ]
