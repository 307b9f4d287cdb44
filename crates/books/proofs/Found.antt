-- What is found in a set: an option that passes a test, or none.
use Rattle.std.proofs.Common.{◌≡◌, ℕ, ◌<◌, Bool, true, false, ◌&&◌, T, Some, None, Option, sym, subst}
use Rattle.network.specs.Network.{has}
use Rattle.network.specs.Sets.{Lowest}
use Rattle.network.proofs.Truth.{T_yes, T_no, T_left, T_right, and_T}
use Rattle.network.proofs.Bits.{none_of_zero}
use Rattle.books.specs.Reads.{Found}

-- the first option that passes, by what a test's answers yes and no say: two facts in place of one, so that antt finds them
abbrev pub First : (ℕ → Type 0) → (ℕ → Type 0) → ℕ → Option ℕ → Type 0
First good bad w (Some a) = T (has w a) × (good a × ((b : ℕ) → b < a → T (has w b) → bad b))
First good bad w None = (b : ℕ) → T (has w b) → bad b

pub found_first : (passes : ℕ → Bool) (w : ℕ) (answer : Option ℕ) (good bad : ℕ → Type 0) → First good bad w answer → ((b : ℕ) → good b → true ≡ passes b) → ((b : ℕ) → bad b → false ≡ passes b) → Found passes w answer
found_first passes w (Some b) good bad f is isnt = (f.0, T_yes (passes b) (sym (is b f.1.0)))
found_first passes w None good bad f is isnt = λ b t u. T_no (passes b) (sym (isnt b (f b t))) u

-- the lowest of a set whose options are those of w that pass
pub found_lowest : (passes : ℕ → Bool) (w chosen : ℕ) → ((b : ℕ) → has chosen b ≡ (has w b && passes b)) → (answer : Option ℕ) → Lowest chosen answer → Found passes w answer
found_lowest passes w chosen is (Some b) l = let t = subst T (is b) l.0 in (T_left (has w b) _ t, T_right (has w b) _ t)
found_lowest passes w chosen is None e =
    λ b t u. T_no (has 0 b) (none_of_zero b) (subst (λ v. T (has v b)) e (subst T (sym (is b)) (and_T (has w b) _ t u)))

-- another test that the same options of the set pass
pub found_like : (passes like : ℕ → Bool) (w : ℕ) → ((b : ℕ) → T (has w b) → passes b ≡ like b) → (answer : Option ℕ) → Found passes w answer → Found like w answer
found_like passes like w same (Some b) f = (f.0, subst T (same b f.0) f.1)
found_like passes like w same None f = λ b t u. f b t (subst T (sym (same b t)) u)

-- one test that a mask has made, and one of the options that it leaves
pub found_both : (first second : ℕ → Bool) (w chosen : ℕ) → ((b : ℕ) → has chosen b ≡ (has w b && first b)) → (answer : Option ℕ) → Found second chosen answer → Found (λ b. first b && second b) w answer
found_both first second w chosen is (Some b) f =
    let t = subst T (is b) f.0 in (T_left (has w b) _ t, and_T (first b) (second b) (T_right (has w b) _ t) f.1)
found_both first second w chosen is None f =
    λ b t u. f b (subst T (sym (is b)) (and_T (has w b) _ t (T_left (first b) (second b) u))) (T_right (first b) (second b) u)

-- nothing is found where nothing passes
pub found_none : (passes : ℕ → Bool) (w : ℕ) → ((b : ℕ) → passes b ≡ false) → Found passes w None
found_none passes w none = λ b t u. T_no (passes b) (none b) u
