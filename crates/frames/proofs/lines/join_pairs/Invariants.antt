use Rattle.std.proofs.Common.{◌≡◌, ◌*◌, ◌<◌, length, map, take}
use Rattle.std.specs.List.{All}
use Rattle.frames.specs.Lines.{digit, digits}
use Rattle.frames.proofs.lines.join_pairs.Given as goal

abbrev pub invariant-loop-high : goal.invariant-loop-high
invariant-loop-high l = (digits l.bytes.items ≡ map digit (take (2 * l.high-index) l.numbers)) × (All (λ b. b < 256) l.bytes.items) × (length l.bytes.items ≡ l.high-index)
