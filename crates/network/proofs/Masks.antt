-- What masks of one option do to a set word, over any width k.
use Rattle.std.proofs.Common.{◌≡◌, ℕ, zero, suc, ◌+◌, ◌-◌, ◌*◌, ◌/◌, ◌%◌, ◌^◌, ◌<◌, ◌≤◌, min, true, false, cond, not, ◌&&◌, ◌||◌, T, eqb, ltb, sym, refl, ap, ◌∙◌, subst, ⊎_elim, pow-suc, arith}
use lib.Bits.{bit_and, bit_or, and_high, or_add_and, and_step, and_zero_r}
use lib.Count.{ones, ones-le}
use Rattle.std.proofs.lemmas.Nat.{pow-add, pow_below, pow_pos, mod_below}
use Rattle.std.proofs.lemmas.Bool.{eqb-true, eqb-false, eq-eqb, ne_eqb, cases_Bool, cases_lt, cases_eq, cond-true, cond-false, lt-ltb, le-ltb}
use Rattle.network.specs.Network.{option_limit, has}
use Rattle.network.specs.Sets.{alone, set_without, set_with}
use Rattle.network.proofs.Truth.{yes_T, T_yes, T_no, and_true, and_false}
use Rattle.network.proofs.Bits.{ones_less, has_le, has_less, has_pow, has_none, none_of_zero, has_or}

and_bit : (w a : ℕ) → bit_and w (2 ^ a) ≡ ((w / 2 ^ a) % 2) * 2 ^ a
and_bit w a =
    let twice : 2 ^ (1 + a) ≡ 2 ^ a + 2 ^ a = pow-add 2 1 a ∙ omega arith in
    let e : 2 ^ (1 + a) - 2 ^ a ≡ 2 ^ a = omega arith in
    ap (λ m. bit_and w m) (sym e) ∙ and_high w 1 a

pub and_bit_set : (w a : ℕ) → has w a ≡ true → bit_and w (2 ^ a) ≡ 2 ^ a
and_bit_set w a h = and_bit w a ∙ ap (λ d. d * 2 ^ a) (eqb-true ((w / 2 ^ a) % 2) 1 h) ∙ omega arith

pub and_bit_clear : (w a : ℕ) → has w a ≡ false → bit_and w (2 ^ a) ≡ 0
and_bit_clear w a h =
    let clear : (w / 2 ^ a) % 2 ≡ 0 =
    let lt = mod_below (w / 2 ^ a) 2 (omega arith) in let ne = eqb-false ((w / 2 ^ a) % 2) 1 h in omega arith in
    and_bit w a ∙ ap (λ d. d * 2 ^ a) clear ∙ omega arith

-- a mask and its complement split a word
pub and_not : (k w m : ℕ) → w < 2 ^ k → m < 2 ^ k → bit_and w (2 ^ k - 1 - m) + bit_and w m ≡ w
and_not zero w m hw hm = let z : w ≡ 0 = omega arith in rw z refl
and_not (suc k) w m hw hm =
    let n : ℕ = 2 ^ suc k - 1 - m in
    let e : 2 ^ suc k ≡ 2 ^ k * 2 = pow-suc 2 k in
    let half : n / 2 ≡ 2 ^ k - 1 - m / 2 = omega arith in
    let odd : n % 2 ≡ 1 - m % 2 = omega arith in
    let low : min (w % 2) (1 - m % 2) + min (w % 2) (m % 2) ≡ w % 2 = omega arith in
    let ih = and_not k (w / 2) (m / 2) (omega arith) (omega arith) in
    let a : bit_and w n ≡ bit_and (w / 2) (2 ^ k - 1 - m / 2) * 2 + min (w % 2) (1 - m % 2) = and_step w n ∙ rw (half, odd) refl in
    omega (arith, a, and_step w m, ih, low)

-- the word of one option, at k bits
pub one_below : (k a : ℕ) → cond (ltb a k) (2 ^ a) 0 < 2 ^ k
one_below k a =
    ⊎_elim
    (λ (l : a < k). subst (λ m. m < 2 ^ k) (sym (cond-true (ltb a k) (2 ^ a) 0 (lt-ltb a k l))) (pow_below a k l))
    (λ (l : k ≤ a). subst (λ m. m < 2 ^ k) (sym (cond-false (ltb a k) (2 ^ a) 0 (le-ltb a k l))) (pow_pos k))
    (cases_lt a k)

and_one : (k w a : ℕ) → w < 2 ^ k → bit_and w (cond (ltb a k) (2 ^ a) 0) ≡ cond (has w a) (2 ^ a) 0
and_one k w a h =
    ⊎_elim
    (λ (l : a < k). ap (bit_and w) (cond-true (ltb a k) (2 ^ a) 0 (lt-ltb a k l))
    ∙ ⊎_elim (λ e. and_bit_set w a e ∙ sym (cond-true (has w a) (2 ^ a) 0 e)) (λ e. and_bit_clear w a e ∙ sym (cond-false (has w a) (2 ^ a) 0 e)) (cases_Bool (has w a)))
    (λ (l : k ≤ a). ap (bit_and w) (cond-false (ltb a k) (2 ^ a) 0 (le-ltb a k l)) ∙ and_zero_r w
    ∙ sym (cond-false (has w a) (2 ^ a) 0 (has_none k w a h l)))
    (cases_lt a k)

-- `w & !one` and `w | one` at k bits
pub and_not_one : (k w a : ℕ) → w < 2 ^ k → bit_and w (2 ^ k - 1 - cond (ltb a k) (2 ^ a) 0) ≡ cond (has w a) (w - 2 ^ a) w
and_not_one k w a h =
    let split = and_not k w (cond (ltb a k) (2 ^ a) 0) h (one_below k a) in
    let one = and_one k w a h in
    ⊎_elim
    (λ e. let is = cond-true (has w a) (2 ^ a) 0 e in omega arith ∙ sym (cond-true (has w a) (w - 2 ^ a) w e))
    (λ e. let is = cond-false (has w a) (2 ^ a) 0 e in omega arith ∙ sym (cond-false (has w a) (w - 2 ^ a) w e))
    (cases_Bool (has w a))

pub or_one : (k w a : ℕ) → w < 2 ^ k → bit_or w (cond (ltb a k) (2 ^ a) 0) ≡ cond (has w a) w (w + cond (ltb a k) (2 ^ a) 0)
or_one k w a h =
    let split = or_add_and w (cond (ltb a k) (2 ^ a) 0) in
    let one = and_one k w a h in
    ⊎_elim
    (λ e. let is = cond-true (has w a) (2 ^ a) 0 e in
    let within : a < k = ⊎_elim (λ (l : a < k). l) (λ (l : k ≤ a). absurd (T_no (has w a) (has_none k w a h l) (T_yes (has w a) e))) (cases_lt a k) in
    let here = cond-true (ltb a k) (2 ^ a) 0 (lt-ltb a k within) in
    omega arith ∙ sym (cond-true (has w a) w (w + cond (ltb a k) (2 ^ a) 0) e))
    (λ e. let is = cond-false (has w a) (2 ^ a) 0 e in omega arith ∙ sym (cond-false (has w a) w (w + cond (ltb a k) (2 ^ a) 0) e))
    (cases_Bool (has w a))

-- which options these sets have
pub has_alone : (a b : ℕ) → has (alone a) b ≡ (ltb a option_limit && eqb b a)
has_alone a b =
    ⊎_elim
    (λ e. ap (λ m. has m b) (cond-true (ltb a option_limit) (2 ^ a) 0 e) ∙ has_pow a b ∙ ap (λ t. t && eqb b a) (sym e))
    (λ e. ap (λ m. has m b) (cond-false (ltb a option_limit) (2 ^ a) 0 e) ∙ none_of_zero b ∙ ap (λ t. t && eqb b a) (sym e))
    (cases_Bool (ltb a option_limit))

pub has_without : (w a b : ℕ) → has (set_without w a) b ≡ (has w b && not (eqb b a))
has_without w a b =
    ⊎_elim
    (λ e. ap (λ m. has m b) (cond-true (has w a) (w - 2 ^ a) w e) ∙ has_less w a b (T_yes (has w a) e))
    (λ e. ap (λ m. has m b) (cond-false (has w a) (w - 2 ^ a) w e)
    ∙ ⊎_elim
    (λ (same : b ≡ a). let off = ap (has w) same ∙ e in off ∙ ap (λ t. t && not (eqb b a)) (sym off))
    (λ ne. sym (and_true (has w b)) ∙ ap (λ t. has w b && not t) (sym (ne_eqb b a ne)))
    (cases_eq b a))
    (cases_Bool (has w a))

pub has_with : (w a b : ℕ) → w < 2 ^ option_limit → has (set_with w a) b ≡ (has w b || (ltb a option_limit && eqb b a))
has_with w a b h = ap (λ m. has m b) (sym (or_one option_limit w a h)) ∙ has_or w (alone a) b ∙ ap (λ t. has w b || t) (has_alone a b)

-- an option that is in the set, taken out; one that a field can have, alone
pub without_is : (w a : ℕ) → T (has w a) → set_without w a ≡ w - 2 ^ a
without_is w a t = cond-true (has w a) (w - 2 ^ a) w (yes_T (has w a) t)

pub ones_without : (w a : ℕ) → T (has w a) → ones (set_without w a) + 1 ≡ ones w
ones_without w a t = ap (λ v. ones v + 1) (without_is w a t) ∙ ones_less w a t

pub alone_is : (a : ℕ) → a < option_limit → alone a ≡ 2 ^ a
alone_is a h = cond-true (ltb a option_limit) (2 ^ a) 0 (lt-ltb a option_limit h)

pub ones_alone : (a : ℕ) → a < option_limit → ones (alone a) ≡ 1
ones_alone a h =
    let one = ones_less (2 ^ a) a (T_yes (has (2 ^ a) a) (has_pow a a ∙ eq-eqb a a refl)) in
    let none : 2 ^ a - 2 ^ a ≡ 0 = omega arith in
    let count = ap ones none in
    ap ones (alone_is a h) ∙ omega (arith, ones-le 0 0 (omega arith))

-- an option that was taken out is put back
pub put_back : (w a : ℕ) → w < 2 ^ option_limit → T (has w a) → set_with (set_without w a) a ≡ w
put_back w a h t =
    let out : set_without w a ≡ w - 2 ^ a = without_is w a t in
    let gone : has (w - 2 ^ a) a ≡ false =
    has_less w a a t ∙ ap (λ e. has w a && not e) (eq-eqb a a refl) ∙ and_false (has w a) in
    let within : a < option_limit = ⊎_elim (λ (l : a < option_limit). l) (λ (l : option_limit ≤ a). absurd (T_no (has w a) (has_none option_limit w a h l) t)) (cases_lt a option_limit) in
    let one = cond-true (ltb a option_limit) (2 ^ a) 0 (lt-ltb a option_limit within) in
    let small = has_le w a t in
    ap (λ v. set_with v a) out ∙ cond-false (has (w - 2 ^ a) a) (w - 2 ^ a) (w - 2 ^ a + alone a) gone ∙ omega arith
