-- Tests as facts: from a test to what it says, and back.
use Rattle.std.proofs.Common.{◌≡◌, Bool, true, false, ◌&&◌, T, sym, refl, subst}

pub yes_T : (b : Bool) → T b → b ≡ true
yes_T true h = refl
yes_T false h = absurd h

pub no_T : (b : Bool) → (T b → ⊥) → b ≡ false
no_T true h = absurd (h tt)
no_T false h = refl

pub T_yes : (b : Bool) → b ≡ true → T b
T_yes b e = subst T (sym e) tt

pub T_no : (b : Bool) → b ≡ false → T b → ⊥
T_no b e t = subst T e t

pub and_T : (a b : Bool) → T a → T b → T (a && b)
and_T true b s t = t
and_T false b s t = s

pub T_left : (a b : Bool) → T (a && b) → T a
T_left true b t = tt
T_left false b t = t

pub T_right : (a b : Bool) → T (a && b) → T b
T_right true b t = t
T_right false b t = absurd t

pub and_true : (a : Bool) → (a && true) ≡ a
and_true true = refl
and_true false = refl

pub and_false : (a : Bool) → (a && false) ≡ false
and_false true = refl
and_false false = refl

-- two tests that follow from each other
pub same_test : (a b : Bool) → (T a → T b) → (T b → T a) → a ≡ b
same_test true true f g = refl
same_test true false f g = absurd (f tt)
same_test false true f g = absurd (g tt)
same_test false false f g = refl
