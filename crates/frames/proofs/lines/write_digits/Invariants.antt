use Rattle.std.proofs.Common.{◌≡◌, ◌*◌, ◌++◌, take, drop}
use Rattle.frames.specs.Lines.{digits}
use Rattle.frames.proofs.lines.write_digits.Given as goal

abbrev pub invariant-loop-i : goal.invariant-loop-i
invariant-loop-i l = l.line ≡ digits (take l.i l.frame) ++ drop (2 * l.i) l.initial.line
