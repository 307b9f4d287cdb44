use Rattle.std.proofs.Common.{◌≡◌, ◌+◌, ◌*◌, ◌/◌, [], ◌∷◌, ◌++◌, length, get_or, take, drop, set, sym, ap, ◌∙◌, arith}
use Rattle.std.proofs.lemmas.List.{length-take-le, take_all}
use Rattle.frames.specs.Lines.{digit, digits}
use Rattle.frames.proofs.Digits.{length_digits, digits_more, written_more, ended_by}
use Rattle.frames.proofs.lines.write_digits.Goals as goal

pub loop-i-preserved : goal.loop-i-preserved
loop-i-preserved c =
    let i = c.loop-i.i in
    let frame = c.args.frame.now in
    let line = c.args.line.now in
    let done = digits (take i frame) in
    let size : length done ≡ 2 * i = length_digits (take i frame) ∙ ap (λ n. 2 * n) (length-take-le i frame c.loop-i.auto.i-end) in
    ap (λ l. set (set l (2 * i) c.digit_of.result) (2 * i + 1) c.digit_of-in-loop-i.result) c.loop-i.invariant
    ∙ written_more done line i c.digit_of.result c.digit_of-in-loop-i.result size (omega (arith, c.requires, c.loop-i-test.true))
    ∙ ap (λ x. (done ++ x ∷ (c.digit_of-in-loop-i.result ∷ [])) ++ drop (2 * (i + 1)) line) c.digit_of.ensures
    ∙ ap (λ y. (done ++ digit (get_or frame i 0 / 16) ∷ (y ∷ [])) ++ drop (2 * (i + 1)) line) c.digit_of-in-loop-i.ensures
    ∙ ap (λ l. l ++ drop (2 * (i + 1)) line) (sym (digits_more frame i c.loop-i-test.true))

pub returns : goal.returns
returns c =
    let frame = c.args.frame.now in
    let line = c.args.line.now in
    let n = length frame in
    let end : c.loop-i.i ≡ n = omega (arith, c.loop-i-test.false, c.loop-i.auto.i-end) in
    let all : digits (take c.loop-i.i frame) ≡ digits frame = ap digits (take_all c.loop-i.i frame c.loop-i-test.false) in
    ap (λ l. set l (2 * n) 10) (c.loop-i.invariant ∙ ap (λ l. l ++ drop (2 * c.loop-i.i) line) all ∙ ap (λ k. digits frame ++ drop (2 * k) line) end)
    ∙ ended_by (digits frame) line (2 * n) (length_digits frame) (omega (arith, c.requires))
