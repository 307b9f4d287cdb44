-- Where a formula rule is fulfilled, said of the option across.
use Rattle.std.proofs.Common.{◌≡◌, ℕ, ◌+◌, ◌^◌, ◌<◌, Bool, false, not, ◌&&◌, ◌||◌, T, ltb, leb, subst, ℤ, pos, negsuc, ◌+ℤ◌, ◌-ℤ◌, nat_abs, ◌≤ℤ◌, sym, refl, ap, ◌∙◌, arith}
use lib.Signed.{le_z, lt_z, non_neg}
use Rattle.std.proofs.lemmas.Int.{ints}
use Rattle.std.proofs.lemmas.Bool.Decides.{nat_tests}
use Rattle.network.specs.declared.rules.Side.{Side}
use Rattle.network.specs.declared.rules.Side.TheVariants.{Left, Right}
use Rattle.network.specs.Network.{option_limit, has}
use Rattle.network.proofs.Truth.{no_T, and_T, T_left, T_right, same_test}
use Rattle.network.proofs.Bits.{has_below, none_of_zero}
use Rattle.network.specs.declared.rules.FormulaRule.{FormulaRule}
use Rattle.books.proofs.Asked.{allows_on}
use Rattle.books.specs.Formula.{eqZ, fulfils, formula_rule, difference_on, meeting_on, before_on}

-- the difference is the rule's number just where both bounds hold
pub meets : (side : Side) (a b : ℕ) (d : ℤ) → (le_z (meeting_on side a d) (pos b) && le_z (pos b) (meeting_on side a d)) ≡ eqZ (difference_on side a b) d
meets Left a b d = grind (arith, ints)
meets Right a b d = grind (arith, ints)

pub differs : (side : Side) (a b : ℕ) (d : ℤ)
    → (le_z (pos b) (meeting_on side a d -ℤ pos 1) || le_z (meeting_on side a d +ℤ pos 1) (pos b)) ≡ not (eqZ (difference_on side a b) d)
differs Left a b d = grind (arith, ints)
differs Right a b d = grind (arith, ints)

pub at_most : (side : Side) (a b : ℕ) (d : ℤ) → before_on side (meeting_on side a d) b ≡ le_z (difference_on side a b) d
at_most Left a b d = grind (arith, ints)
at_most Right a b d = grind (arith, ints)

pub apart : (side : Side) (a b : ℕ) (d : ℤ) → (le_z (pos b) (pos a -ℤ d) || le_z (pos a +ℤ d) (pos b)) ≡ le_z d (pos (nat_abs (difference_on side a b)))
apart Left a b d = grind (arith, ints)
apart Right a b d = grind (arith, ints)

-- two tests that agree on all options that a field can have
pub agree : (w b : ℕ) (x y : Bool) → w < 2 ^ option_limit → (b < option_limit → x ≡ y) → (has w b && x) ≡ (has w b && y)
agree w b x y h same =
    same_test (has w b && x) (has w b && y)
    (λ t. let i = T_left (has w b) x t in and_T (has w b) y i (subst T (same (has_below option_limit w b h i)) (T_right (has w b) x t)))
    (λ t. let i = T_left (has w b) y t in and_T (has w b) x i (subst T (sym (same (has_below option_limit w b h i))) (T_right (has w b) y t)))

-- a set cut off at a number that an option can be
pub low_cut : (w b : ℕ) (i : ℤ) → T (non_neg i) → (has w b && ltb b (nat_abs i + 1)) ≡ (has w b && le_z (pos b) i)
low_cut w b i t = ap (λ x. has w b && x) (same i t)
  where
    same : (i : ℤ) → T (non_neg i) → ltb b (nat_abs i + 1) ≡ le_z (pos b) i
    same (pos n) t = grind (arith, nat_tests)
    same (negsuc n) t = absurd t

pub high_cut : (w b : ℕ) (i : ℤ) → T (non_neg i) → (has w b && leb (nat_abs i) b) ≡ (has w b && le_z i (pos b))
high_cut w b i t = ap (λ x. has w b && x) (same i t)
  where
    same : (i : ℤ) → T (non_neg i) → leb (nat_abs i) b ≡ le_z i (pos b)
    same (pos n) t = refl
    same (negsuc n) t = absurd t

-- a number above every option bounds none of them from above, and all of them from below
pub all_low : (w b : ℕ) (i : ℤ) → w < 2 ^ option_limit → pos option_limit ≤ℤ i → has w b ≡ (has w b && le_z (pos b) i)
all_low w b i h l = same_test (has w b) (has w b && le_z (pos b) i)
    (λ t. let s : b < option_limit = has_below option_limit w b h t in let o : pos b ≤ℤ i = omega (arith, ints) in and_T (has w b) (le_z (pos b) i) t o.le)
    (λ t. T_left (has w b) (le_z (pos b) i) t)

pub none_high : (w b : ℕ) (i : ℤ) → w < 2 ^ option_limit → pos option_limit ≤ℤ i → has 0 b ≡ (has w b && le_z i (pos b))
none_high w b i h l =
    none_of_zero b
    ∙ sym (no_T (has w b && le_z i (pos b))
    (λ t. let s : b < option_limit = has_below option_limit w b h (T_left (has w b) (le_z i (pos b)) t) in
    let o : i ≤ℤ pos b = record { le = T_right (has w b) (le_z i (pos b)) t } in
    let e : ◌≡◌ {A = ℕ} 0 1 = omega (arith, ints) in omega arith))

-- what the tests of a number say
pub not_negative : (i : ℤ) → lt_z i (pos 0) ≡ false → T (non_neg i)
not_negative (pos n) e = tt
not_negative (negsuc n) e = let z : ◌≡◌ {A = ℕ} 0 1 = cc in absurd (omega arith)

-- a record's pairs, by side
pub fulfils_on : (f : FormulaRule) (side : Side) (a b : ℕ) → fulfils f.kind f.difference (difference_on side a b) ≡ allows_on (formula_rule f) side a b
fulfils_on f Left a b = refl
fulfils_on f Right a b = refl
