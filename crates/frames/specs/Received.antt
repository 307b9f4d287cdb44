-- What a line is taken for.
use Rattle.std.specs.Prelude.{◌≡◌, ℕ, List, IfOk, Ok, Err, Result}
use Rattle.faults.specs.declared.LineFault.{LineFault}
use Rattle.faults.specs.declared.FrameFault.{FrameFault}
use Rattle.faults.specs.declared.FrameFault.TheVariants.{Line}
use Rattle.frames.specs.declared.frames.Frame.{Frame}
use Rattle.frames.specs.Lines.{line_of, IsFrame, reading, frame_limit}
use Rattle.frames.specs.Frames.{decoding, frame_bytes, Fits}

-- a bad line passes its fault up, a good one is the line of some bytes, which are decoded;
-- so the line of a frame is taken for that frame, and only that line is
pub record Received (line : List ℕ) (r : Result Frame FrameFault) : Type 0 where
  pub bad_line : (fault : LineFault) → reading frame_limit line ≡ Err fault → r ≡ Err (Line fault)
  pub good_line : (bytes : List ℕ) → IsFrame bytes → line ≡ line_of bytes → r ≡ decoding bytes
  pub accepts : (frame : Frame) → Fits frame → line ≡ line_of (frame_bytes frame) → r ≡ Ok frame
  pub only : IfOk r (λ frame. line ≡ line_of (frame_bytes frame))
