-- Only the first bytes of a line matter.
use Rattle.std.proofs.Common.{◌≡◌, ℕ, ◌-◌, ◌<◌, ◌≤◌, List, length, take, Err, Result, sym, ap, ◌∙◌, subst, inl, inr, arith, lit≤}
use Rattle.std.proofs.lemmas.Bool.{cases_lt, cond_both, cond-true, lt-ltb}
use Rattle.std.proofs.lemmas.List.{length-take, take_all}
use Rattle.faults.specs.declared.LineFault.{LineFault}
use Rattle.faults.specs.declared.LineFault.TheVariants.{TooLong}
use Rattle.faults.specs.declared.FrameFault.{FrameFault}
use Rattle.faults.specs.declared.FrameFault.TheVariants.{Line}
use Rattle.frames.specs.declared.frames.Frame.{Frame}
use Rattle.frames.specs.Lines.{ended, before_end, reading, line_reach}
use Rattle.frames.specs.Frames.{frame_bytes}
use Rattle.frames.specs.Received.{Received}
use Rattle.frames.proofs.Framing.{is_frame}
use Rattle.frames.proofs.Reading.{no_frame}

-- a line of 34 bytes is too long, whatever they are
module _ (line : List ℕ) (long : 34 ≤ length line) where
  before_size : 33 ≤ length (before_end line)
  before_size = cond_both (ended line) 1 0 (λ n. 33 ≤ length (take (length line - n) line)) (λ _. omega (arith, length-take (length line - 1) line)) (λ _. omega (arith, length-take (length line - 0) line))

  too_long : reading 16 line ≡ Err TooLong
  too_long = cond-true _ _ _ (lt-ltb 32 (length (before_end line)) (omega (arith, before_size)))

-- a line with a fault is refused
pub refused : (line : List ℕ) (fault : LineFault) → reading 16 line ≡ Err fault → Received line (Err (Line fault))
refused line fault e = record {
  bad_line = λ other o. let both : Err fault ≡ Err other = sym e ∙ o in cc;
  good_line = λ bytes f is. no_frame 16 line fault (sym e) bytes f is (lit≤ tt);
  accepts = λ frame h is. no_frame 16 line fault (sym e) (frame_bytes frame) (is_frame frame h) is (lit≤ tt);
  only = tt;
}

-- two lines with the same start are taken for the same
pub same_start : (v w : List ℕ) → take line_reach v ≡ take line_reach w → (r : Result Frame FrameFault) → Received v r → Received w r
same_start v w start r got =
    elim (cases_lt (length v) 34) [
      | inl short ↦
          let size : length (take 34 w) < 34 = omega (arith, ap length start, length-take 34 v) in
          let same : v ≡ w = sym (take_all 34 v (omega arith)) ∙ start ∙ take_all 34 w (omega (arith, length-take 34 w)) in
          subst (λ l. Received l r) same got
      | inr long ↦
          let size : 34 ≤ length w = omega (arith, ap length start, length-take 34 v, length-take 34 w) in
          rw (got.bad_line TooLong (too_long v long)) (refused w TooLong (too_long w size))
    ]
