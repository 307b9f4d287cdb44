use Rattle.std.proofs.Common.{◌≡◌, ◌≤◌, length, map, sym, ap, ◌∙◌, arith}
use Rattle.std.proofs.lemmas.Bool.{eqb-false}
use Rattle.std.proofs.lemmas.List.{length-map}
use Rattle.frames.specs.Lines.{digit, digits, before_end}
use Rattle.frames.proofs.Reading.{is_frame, is_line}
use Rattle.frames.proofs.lines.frame_of.Goals as goal

pub returns : goal.returns
returns c =
    let line = c.args.line.now in
    let numbers = c.in_ok-numbers.numbers.items in
    let bytes = c.join_pairs.result.items in
    let body = c.before_end-body.ensures in
    let read = c.in_ok-numbers.ensures.2 ∙ body in
    let is : digits bytes ≡ before_end line = c.join_pairs.ensures.digits ∙ ap (map digit) c.as_slice.ensures.value ∙ read in
    let short : length (before_end line) ≤ 32 = omega (arith, ap length body) in
    let some : length (before_end line) ≡ 0 → ⊥ = λ none. eqb-false (length numbers) 0 (sym c.if-is_empty.ensures) (omega (arith, ap length read, length-map numbers digit)) in
    (is_frame line bytes is short some c.join_pairs.ensures.bytes, is_line line bytes is (λ (e : length (before_end line) ≡ length line). omega (arith, ap length body)))
