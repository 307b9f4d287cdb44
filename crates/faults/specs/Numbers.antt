-- The refusal number of each case.
use Rattle.std.specs.Prelude.{ℕ}
use Rattle.faults.specs.declared.LineFault.{LineFault}
use Rattle.faults.specs.declared.LineFault.TheVariants as line
use Rattle.faults.specs.declared.FrameFault.{FrameFault}
use Rattle.faults.specs.declared.FrameFault.TheVariants as frame
use Rattle.faults.specs.declared.EngineFault.{EngineFault}
use Rattle.faults.specs.declared.EngineFault.TheVariants as engine
use Rattle.faults.specs.declared.ProgramFault.{ProgramFault}
use Rattle.faults.specs.declared.ProgramFault.TheVariants as program

-- 12: a buffer that is too short; 13: a bad line
abbrev pub line_number : LineFault → ℕ
line_number line.ShortBuffer = 12
line_number line.TooLong = 13
line_number (line.BadDigit place) = 13
line_number line.Odd = 13
line_number line.Empty = 13
line_number line.NotEnded = 13

-- 14: a frame that is unknown, of a wrong length, or misplaced
abbrev pub frame_number : FrameFault → ℕ
frame_number (frame.Line fault) = line_number fault
frame_number frame.Size = 14
frame_number frame.Unknown = 14
frame_number frame.Length = 14
frame_number frame.Misplaced = 14

abbrev pub engine_number : EngineFault → ℕ
engine_number engine.FieldCount = 1
engine_number engine.EmptySet = 2
engine_number engine.RuleCount = 3
engine_number engine.UnfitEnds = 4
engine_number engine.NotOpened = 5
engine_number engine.OutOfRange = 6
engine_number engine.NotNext = 6
engine_number engine.NotStanding = 7
engine_number engine.LastOption = 8
engine_number engine.TooManyDecisions = 9
engine_number engine.NoDecision = 10
engine_number (engine.WipedOut field rule) = 11
engine_number engine.NoTightPart = 11
engine_number engine.ShortBuffer = 12
engine_number engine.NoTable = 14
engine_number engine.UnfitRule = 15
engine_number engine.Full = 16

abbrev pub program_number : ProgramFault → ℕ
program_number (program.Frame fault) = frame_number fault
program_number (program.Engine fault) = engine_number fault
