-- Probes that are put, one by one.
use Rattle.std.proofs.Common.{◌≡◌, ℕ, ◌-◌, ◌^◌, ◌<◌, Bool, true, false, cond, ◌&&◌, ◌||◌, T, eqb, ltb, ◌⊎◌, sym, refl, ap, ◌∙◌, ⊎_elim, arith}
use Rattle.std.proofs.lemmas.Grind.{common_steps}
use Rattle.std.proofs.lemmas.Bool.{cases_eq, eq-eqb, lt-ltb, eqb-true}
use Rattle.std.proofs.Math.Dec.{not_T}
use Rattle.network.specs.Network.{has}
use Rattle.network.proofs.Truth.{T_no, T_right}
use Rattle.network.proofs.Bits.{has_less}
use Rattle.agenda.specs.Waiting.{Waiting, Same, without, Nothing}
use Rattle.agenda.specs.Jobs.{probe_number, probe_fits, put_job}
use Rattle.agenda.specs.declared.job.Probe.{Probe}
use Rattle.tightening.specs.Probes.{probes_of, PutOn}

pub put_none : (w : Waiting) → PutOn w w
put_none w = record { still = λ k h. h; only = λ o. o }

pub put_then : (w w₁ w₂ : Waiting) → PutOn w w₁ → PutOn w₁ w₂ → PutOn w w₂
put_then w w₁ w₂ p q = record { still = λ k h. q.still k (p.still k h); only = λ o. q.only (p.only o) }

or_on : (a b : Bool) → b ≡ true → (a || b) ≡ true
or_on true b e = refl
or_on false b e = e

-- one probe of an option of a field
module _ (w w' : Waiting) (probe : Probe) (field : probe.field < 16) (option : probe.option < 32) (waiting : Same (put_job w (probe_fits probe) (probe_number probe)) w') where
  fits : probe_fits probe ≡ true
  fits = ap (λ t. t && ltb probe.option 32) (lt-ltb probe.field 16 field) ∙ lt-ltb probe.option 32 option

  now : (k : ℕ) → w' k ≡ (eqb k (probe_number probe) || w k)
  now k = waiting k ∙ ap (λ t. cond t (eqb k (probe_number probe) || w k) (w k)) fits

  pub put_one : PutOn w w'
  put_one = record {
    still = λ k h. now k ∙ or_on (eqb k (probe_number probe)) (w k) h;
    only = λ o k h. ⊎_elim
        (λ (e : k ≡ probe_number probe). omega (arith, e, field, option))
        (λ ne. o k (or_other (eqb k (probe_number probe)) (w k) (λ t. ne (eqb-true k (probe_number probe) t)) (sym (now k) ∙ h)))
        (cases_eq k (probe_number probe));
  }
    where
      or_other : (a b : Bool) → (a ≡ true → ⊥) → (a || b) ≡ true → b ≡ true
      or_other true b f h = absurd (f refl)
      or_other false b f h = h

  pub it_waits : T (probes_of w' probe.field probe.option)
  it_waits = grind (arith, common_steps, eq-eqb, now)

pub still_waits : (w w' : Waiting) → PutOn w w' → (x a : ℕ) → T (probes_of w x a) → T (probes_of w' x a)
still_waits w w' p x a t = grind (arith, common_steps)

-- the options of a set that are put, but for those that are left
pub one_less : (w w' : Waiting) (x set rest d : ℕ) → PutOn w w' → T (has rest d) → T (probes_of w' x d)
    → ((a : ℕ) → T (has set a) → T (has rest a) ⊎ T (probes_of w x a)) → (a : ℕ) → T (has set a) → T (has (rest - 2 ^ d) a) ⊎ T (probes_of w' x a)
one_less w w' x set rest d p h here all a t = grind (arith, common_steps, has_less, not_T, still_waits)

-- once a probe is taken, all others still wait
pub others_wait : (w w' : Waiting) (x a : ℕ) → a < 32 → Same (without w (probe_number (record { field = x; option = a }))) w' → (y b : ℕ) → T (probes_of w y b) → (y ≡ x → b ≡ a → ⊥) → T (probes_of w' y b)
others_wait w w' x a l taken y b t ne = grind (arith, common_steps)

pub nothing_waits : (w : Waiting) → Nothing w → (x a : ℕ) → T (probes_of w x a) → ⊥
nothing_waits w none x a t = T_no _ (none _) (T_right (ltb a 32) _ t)
