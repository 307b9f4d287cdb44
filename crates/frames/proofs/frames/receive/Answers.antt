use Rattle.std.proofs.Common.{◌≡◌, ℕ, List, sym, ap, ◌∙◌, lit≤}
use Rattle.std.proofs.lemmas.Result.{err_from_is_err_and}
use Rattle.frames.specs.Lines.{line_of, IsFrame}
use Rattle.frames.specs.Frames.{decoding, frame_bytes}
use Rattle.frames.proofs.Clipping.{refused}
use Rattle.frames.proofs.Framing.{decodes, encodes, is_frame, made_of}
use Rattle.frames.proofs.Reading.{no_frame, line_tells}
use Rattle.frames.proofs.frames.receive.Goals as goal

pub returns-in_err-bytes : goal.returns-in_err-bytes
returns-in_err-bytes c =
    let p = err_from_is_err_and c.from_residual.result c.from_residual.ensures.1 in
    rw (p.1, p.2) (refused c.args.line.now c.in_err-bytes.field-0.0 c.in_err-bytes.ensures)

pub returns : goal.returns
returns c =
    let line = c.args.line.now in
    let bytes = c.in_ok-bytes.bytes.items in
    let frame = c.in_ok-bytes.ensures.0 in
    let is = c.in_ok-bytes.ensures.1 in
    let decoded : c.decode.result ≡ decoding bytes = c.decode.ensures ∙ ap decoding c.as_slice.ensures.value in
    let as_read = λ (other : List ℕ) (f : IsFrame other) (e : line ≡ line_of other). decoded ∙ ap decoding (line_tells bytes other frame f (sym is ∙ e)) in
    record {
      bad_line = λ fault e. no_frame 16 line fault (sym e) bytes frame is (lit≤ tt);
      good_line = as_read;
      accepts = λ f h e. as_read (frame_bytes f) (is_frame f h) e ∙ decodes f h;
      only = made_of c.decode.result _ (λ f e. is ∙ ap line_of (sym (encodes bytes frame.fit f (sym decoded ∙ e))));
    }
