-- A fault that is passed up.
use Rattle.std.proofs.Common.{◌≡◌, ℕ, Some, None, Ok, Err, Option, Result, sym, ap, ◌∙◌, arith}
use Rattle.faults.specs.declared.EngineFault.{EngineFault}
use Rattle.faults.specs.declared.ProgramFault.{ProgramFault}
use Rattle.faults.specs.declared.ProgramFault.TheVariants.{Engine}
use Rattle.propagation.specs.Refusals.{answer}
use Rattle.catalogue.specs.Content.{Content, outcome as settled}
use Rattle.frames.specs.declared.frames.Frame.{Frame}
use Rattle.frames.specs.declared.answers.Answer.{Answer}
use Rattle.frames.specs.declared.answers.Answer.TheVariants.{Done}
use Rattle.session.specs.Serving.{passed, verdict, outcome, refusal, served}

-- a call of the engine was refused
pub refused_by : (o : Option EngineFault) (fault : EngineFault) → Err fault ≡ answer o → o ≡ Some fault
refused_by None fault e = let z : ◌≡◌ {A = ℕ} 0 1 = cc in absurd (omega arith)
refused_by (Some why) fault e = let same : why ≡ fault = cc in ap Some same

-- what is passed up of it
pub passes : (o : Option EngineFault) (fault : EngineFault) → Err fault ≡ answer o → Err (Engine fault) ≡ verdict (passed o)
passes o fault e = sym (ap (λ p. verdict (passed p)) (refused_by o fault e))

-- what the catalogue holds
pub unchanged : (o : Option EngineFault) (fault : EngineFault) → Err fault ≡ answer o → (before done after : Content) → after ≡ settled o before done → after ≡ outcome (passed o) before done
unchanged o fault refused before done after e =
    e ∙ ap (λ p. settled p before done) (refused_by o fault refused) ∙ sym (ap (λ p. outcome (passed p) before done) (refused_by o fault refused))

-- a frame was refused
pub refused_as : (o : Option ProgramFault) (fault : ProgramFault) → Err fault ≡ verdict o → o ≡ Some fault
refused_as None fault e = let z : ◌≡◌ {A = ℕ} 0 1 = cc in absurd (omega arith)
refused_as (Some why) fault e = let same : why ≡ fault = cc in ap Some same

pub answered_so : (c : Content) (f : Frame) (fault : ProgramFault) → Err fault ≡ verdict (refusal c f) → Err fault ≡ served c (Ok f)
answered_so c f fault e = go (refusal c f) e
  where
    go : (o : Option ProgramFault) → Err fault ≡ verdict o → Err fault ≡ elim o as (λ _. Result Answer ProgramFault) [ None ↦ Ok Done | Some why ↦ Err why ]
    go None e = cc
    go (Some why) e = cc
