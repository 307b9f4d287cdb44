-- Jobs that are taken by number.
use Rattle.std.proofs.Common.{◌≡◌, ℕ, ◌<◌, Bool, true, cond, ltb, Some, None, Option, sym, ◌∙◌, subst, inl, inr, arith}
use Rattle.std.proofs.lemmas.Bool.{cases_Bool, ltb-true, ltb-false, cond-true, cond-false}
use Rattle.agenda.specs.Waiting.{Waiting, Nothing, Taken}
use Rattle.agenda.specs.Jobs.{JobTaken}

module _ {J : Type 0} (limit : ℕ) (fits : J → Bool) (number : J → ℕ) (job : ℕ → J) (w w' : Waiting) where
  -- the job that a taken number stands for
  pub job_taken : ((k : ℕ) → k < limit → (fits (job k) ≡ true) × (number (job k) ≡ k)) →
      (n : ℕ) (o : Option J) → o ≡ cond (ltb n limit) (Some (job n)) None → Taken w (Some n) w' → JobTaken limit fits number w o w'
  job_taken there n o is taken =
      elim (cases_Bool (ltb n limit)) [
        | inl e ↦
            let here = there n (ltb-true n limit e) in
            subst (λ x. JobTaken limit fits number w x w') (sym (is ∙ cond-true (ltb n limit) (Some (job n)) None e)) (here.0, subst (λ k. Taken w (Some k) w') (sym here.1) taken)
        | inr e ↦
            subst (λ x. JobTaken limit fits number w x w') (sym (is ∙ cond-false (ltb n limit) (Some (job n)) None e)) (inr (n, (ltb-false n limit e, taken)))
      ]

  -- where only jobs of the kind waited and none came, nothing waited, and nothing waits
  pub none_waits : ((k : ℕ) → w k ≡ true → k < limit) → JobTaken limit fits number w None w' → Nothing w × Nothing w'
  none_waits only (inl nothing) = nothing
  none_waits only (inr (n, (above, taken))) = let below = only n taken.0 in absurd (omega arith)
