-- A walk through a set by rising options, for the first that passes a test.
use Rattle.std.proofs.Common.{◌≡◌, ℕ, ◌-◌, ◌^◌, ◌<◌, Bool, false, not, ◌&&◌, T, sym, subst, ap, ⊎_elim, ◌∙◌, arith}
use Rattle.std.proofs.lemmas.Bool.{cases_eq, ne_eqb}
use Rattle.std.proofs.lemmas.Nat.{pow_pos}
use Rattle.network.specs.Network.{has}
use Rattle.network.proofs.Bits.{has_less, has_le}
use Rattle.network.proofs.Truth.{T_left, and_true}

-- what waits is of the set, and every option of the set that waits no longer did not pass
pub record Walk (answers : ℕ → Bool → Type 0) (w waiting : ℕ) : Type 0 where
  pub of_set : (b : ℕ) → T (has waiting b) → T (has w b)
  pub done : (b : ℕ) → T (has w b) → has waiting b ≡ false → answers b false

-- the option that was taken out did not pass
pub walk_less : (answers : ℕ → Bool → Type 0) (w waiting a : ℕ) → Walk answers w waiting → T (has waiting a) → answers a false → Walk answers w (waiting - 2 ^ a)
walk_less answers w waiting a i t failed = record {
  of_set = λ b u. i.of_set b (T_left (has waiting b) _ (subst T (has_less waiting a b t) u));
  done = λ b u e.
      ⊎_elim
      (λ (same : b ≡ a). subst (λ c. answers c false) (sym same) failed)
      (λ ne. i.done b u (sym (and_true (has waiting b)) ∙ sym (ap (λ x. has waiting b && not x) (ne_eqb b a ne)) ∙ sym (has_less waiting a b t) ∙ e))
      (cases_eq b a);
}

-- one option fewer waits
pub waits_fall : (waiting a : ℕ) → T (has waiting a) → waiting - 2 ^ a < waiting
waits_fall waiting a t = let l = has_le waiting a t in let p = pow_pos a in omega arith
