use Rattle.std.proofs.Common.{◌<◌, ap, ◌∙◌, arith, rules}
use Rattle.std.proofs.lemmas.List.Elements.{All-push}
use Rattle.frames.specs.Lines.{digits}
use Rattle.frames.proofs.Digits.{parts_small, joined_more}
use Rattle.frames.proofs.lines.join_pairs.Goals as goal

pub overflow_mul-high : goal.overflow_mul-high
overflow_mul-high c =
    let small = parts_small c.args.numbers.now c.as_chunks.result.0.now c.as_chunks.ensures.front c.as_chunks.ensures.front_len c.loop-high.high-index c.loop-high-test.true c.requires.small in
    search rules

pub overflow_add-high : goal.overflow_add-high
overflow_add-high c =
    let small = parts_small c.args.numbers.now c.as_chunks.result.0.now c.as_chunks.ensures.front c.as_chunks.ensures.front_len c.loop-high.high-index c.loop-high-test.true c.requires.small in
    search rules

pub loop-high-preserved : goal.loop-high-preserved
loop-high-preserved c =
    let numbers = c.args.numbers.now in
    let pairs = c.as_chunks.result.0.now in
    let bytes = c.loop-high.bytes.items in
    let small = parts_small numbers pairs c.as_chunks.ensures.front c.as_chunks.ensures.front_len c.loop-high.high-index c.loop-high-test.true c.requires.small in
    let more = joined_more numbers pairs c.as_chunks.ensures.front c.as_chunks.ensures.front_len c.loop-high.high-index c.loop-high-test.true c.requires.small bytes c.loop-high.invariant.0 in
    (ap digits c.push.ensures.items ∙ more, rw c.push.ensures.items (All-push (λ b. b < 256) bytes _ c.loop-high.invariant.1 (omega (arith, small.0, small.1))), omega arith)
