-- Lines, and the frames that they stand for.
use Rattle.std.specs.Prelude.{ℕ, ◌+◌, ◌-◌, ◌*◌, ◌/◌, ◌%◌, ◌<◌, ◌≤◌, Bool, cond, ◌&&◌, ◌||◌, List, [], ◌∷◌, ◌++◌, length, take, Some, None, Ok, Err, Option, Result, ◌==◌, nat_le, nat_lt, slice_index}
use Rattle.faults.specs.declared.LineFault.{LineFault}
use Rattle.faults.specs.declared.LineFault.TheVariants.{ShortBuffer, TooLong, BadDigit, Odd, Empty, NotEnded}
use Rattle.faults.specs.declared.FrameFault.{FrameFault}
use Rattle.faults.specs.declared.FrameFault.TheVariants.{Line, Size}

-- the most bytes of a frame, and of its line
abbrev pub frame_limit : ℕ
frame_limit = 16

abbrev pub line_limit : ℕ
line_limit = 33

-- how many bytes of a line matter: with one more than the longest line has, it is too long whatever follows
abbrev pub line_reach : ℕ
line_reach = 34

abbrev pub line_feed : ℕ
line_feed = 10

-- the digit of a number below 16: 0 to 9, then A to F
abbrev pub digit : ℕ → ℕ
digit n = cond (nat_lt n 10) (48 + n) (55 + n)

-- two digits for each byte
abbrev pub digits : List ℕ → List ℕ
digits [] = []
digits (b ∷ bytes) = digit (b / 16) ∷ (digit (b % 16) ∷ digits bytes)

-- the line of a frame
abbrev pub line_of : List ℕ → List ℕ
line_of frame = digits frame ++ line_feed ∷ []

-- a frame has 1 to 16 bytes
pub record IsFrame (bytes : List ℕ) : Type 0 where
  pub some : 0 < length bytes
  pub few : length bytes ≤ frame_limit
  pub fit : (k : ℕ) → slice_index bytes k < 256

-- whether a byte is a digit
abbrev pub is_digit : ℕ → Bool
is_digit b = (nat_le 48 b && nat_le b 57) || (nat_le 65 b && nat_le b 70)

-- whether a line ends with a line feed
abbrev pub ended : List ℕ → Bool
ended line = slice_index line (length line - 1) == line_feed

-- what stands before the end of a line: all of it but a line feed at the very end
abbrev pub before_end : List ℕ → List ℕ
before_end line = take (length line - cond (ended line) 1 0) line

-- the place of the first byte that is no digit, counted from `at`
abbrev pub bad_digit : ℕ → List ℕ → Option ℕ
bad_digit at [] = None
bad_digit at (b ∷ bytes) = cond (is_digit b) (bad_digit (at + 1) bytes) (Some at)

-- what is read of the bytes before the end: how many bytes the frame has, or the first fault that fits
abbrev pub after_digits : List ℕ → Bool → Option ℕ → Result ℕ LineFault
after_digits body end (Some place) = Err (BadDigit place)
after_digits body end None =
    cond (length body % 2 == 1) (Err Odd)
    (cond (length body == 0) (Err Empty)
    (cond end (Ok (length body / 2)) (Err NotEnded)))

-- what reading a line into a buffer with room for so many bytes answers
abbrev pub reading : ℕ → List ℕ → Result ℕ LineFault
reading room line =
    cond (nat_lt room frame_limit) (Err ShortBuffer)
    (cond (nat_lt (2 * frame_limit) (length (before_end line))) (Err TooLong)
    (after_digits (before_end line) (ended line) (bad_digit 0 (before_end line))))

-- what writing the line of a frame with so many bytes into a buffer with room for so many answers
abbrev pub writing : ℕ → ℕ → Result ℕ FrameFault
writing size room =
    cond (size == 0 || nat_lt frame_limit size) (Err Size)
    (cond (nat_lt room (2 * size + 1)) (Err (Line ShortBuffer)) (Ok (2 * size + 1)))
