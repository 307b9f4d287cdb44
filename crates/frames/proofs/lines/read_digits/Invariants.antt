use Rattle.std.proofs.Common.{◌≡◌, ◌<◌, map, take, drop}
use Rattle.std.specs.List.{All}
use Rattle.frames.specs.Lines.{digit, bad_digit}
use Rattle.frames.proofs.lines.read_digits.Given as goal

abbrev pub invariant-loop-byte : goal.invariant-loop-byte
invariant-loop-byte l = (bad_digit l.byte-index (drop l.byte-index l.body) ≡ bad_digit 0 l.body) × (All (λ n. n < 16) l.numbers.items) × (map digit l.numbers.items ≡ take l.byte-index l.body)
