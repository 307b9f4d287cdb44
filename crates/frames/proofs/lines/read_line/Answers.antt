use Rattle.std.proofs.Common.{◌≡◌, length, Ok, sym, ap, ◌∙◌, lit≤}
use Rattle.std.proofs.lemmas.List.{take_at}
use Rattle.frames.specs.Lines.{reading}
use Rattle.frames.proofs.Reading.{no_frame, reads_back, line_tells}
use Rattle.frames.proofs.lines.read_line.Goals as goal

pub returns-in_err-bytes-clause-back : goal.returns-in_err-bytes-clause-back
returns-in_err-bytes-clause-back c bytes f is wide = no_frame 16 c.args.line.now c.in_err-bytes.field-0.0 (sym c.in_err-bytes.ensures) bytes f is (lit≤ tt)

pub returns-clause-answer : goal.returns-clause-answer
returns-clause-answer c =
    let bytes = c.in_ok-bytes.bytes.items in
    let room = length c.args.frame.now in
    ap Ok c.len-size.ensures.value ∙ sym (ap (reading room) c.in_ok-bytes.ensures.1 ∙ reads_back room bytes c.if-frame-lt-FRAME_BYTES.false c.in_ok-bytes.ensures.0)

pub returns-clause-back : goal.returns-clause-back
returns-clause-back c other f is wide =
    let bytes = c.in_ok-bytes.bytes.items in
    let same : bytes ≡ other = line_tells bytes other c.in_ok-bytes.ensures.0 f (sym c.in_ok-bytes.ensures.1 ∙ is) in
    let written : c.copy_from_slice.new.self ≡ other = c.copy_from_slice.ensures.after ∙ c.as_slice.ensures.value ∙ same in
    (ap Ok (c.len-size.ensures.value ∙ ap length same), take_at c.copy_from_slice.new.self _ (length other) (ap length written) ∙ written)
