-- Frames, and their bytes.
use Rattle.std.specs.Prelude.{ℕ, ◌+◌, ◌-◌, ◌*◌, ◌/◌, ◌%◌, ◌^◌, ◌<◌, cond, List, [], ◌∷◌, length, ℤ, pos, negsuc, Ok, Err, Result, ◌==◌, nat_lt, slice_index, slice_index_or}
use Rattle.network.specs.declared.options.OptionSet.{OptionSet}
use Rattle.faults.specs.declared.FrameFault.{FrameFault}
use Rattle.faults.specs.declared.FrameFault.TheVariants as fault
use Rattle.frames.specs.declared.frames.Frame.{Frame}
use Rattle.frames.specs.declared.frames.Frame.TheVariants as frame

-- the set that four bytes from a place on stand for, highest first
abbrev pub set_at : List ℕ → ℕ → OptionSet
set_at bytes i = record { word = ((slice_index bytes i * 256 + slice_index bytes (i + 1)) * 256 + slice_index bytes (i + 2)) * 256 + slice_index bytes (i + 3) }

-- the number that a byte stands for in two's complement
abbrev pub signed : ℕ → ℤ
signed b = cond (nat_lt b 128) (pos b) (negsuc (255 - b))

-- the frame of that kind, if the bytes are as many as it has
abbrev pub sized : List ℕ → ℕ → Frame → Result Frame FrameFault
sized bytes n f = cond (length bytes == n) (Ok f) (Err fault.Length)

abbrev pub of_kind : List ℕ → ℕ → Result Frame FrameFault
of_kind bytes kind =
    let at : ℕ → ℕ = λ i. slice_index_or bytes i 0 in
    cond (kind == 0x01) (sized bytes 6 (frame.EnterField (at 1) (set_at bytes 2)))
    (cond (kind == 0x02) (sized bytes 3 (frame.StartTable (at 1) (at 2)))
    (cond (kind == 0x03) (sized bytes 6 (frame.SetRow (at 1) (set_at bytes 2)))
    (cond (kind == 0x04) (sized bytes 5 (frame.EnterFormula (at 1) (at 2) (at 3) (signed (at 4))))
    (cond (kind == 0x05) (sized bytes 1 frame.Open)
    (cond (kind == 0x06) (sized bytes 1 frame.TightenAndOpen)
    (cond (kind == 0x10) (sized bytes 3 (frame.Choose (at 1) (at 2)))
    (cond (kind == 0x11) (sized bytes 3 (frame.Exclude (at 1) (at 2)))
    (cond (kind == 0x12) (sized bytes 1 frame.Settle)
    (cond (kind == 0x13) (sized bytes 1 frame.TakeBack)
    (cond (kind == 0x14) (sized bytes 2 (frame.Show (at 1)))
    (Err fault.Unknown)))))))))))

-- the frame that some bytes are
abbrev pub decoding : List ℕ → Result Frame FrameFault
decoding bytes = cond (length bytes == 0) (Err fault.Unknown) (of_kind bytes (slice_index bytes 0))

-- the bytes of a set, highest first, and the byte of a number in two's complement
abbrev pub set_bytes : OptionSet → List ℕ
set_bytes s = s.word / 16777216 % 256 ∷ (s.word / 65536 % 256 ∷ (s.word / 256 % 256 ∷ (s.word % 256 ∷ [])))

abbrev pub byte_of : ℤ → ℕ
byte_of (pos n) = n
byte_of (negsuc n) = 255 - n

-- the bytes of a frame
abbrev pub frame_bytes : Frame → List ℕ
frame_bytes (frame.EnterField field s) = 0x01 ∷ (field ∷ set_bytes s)
frame_bytes (frame.StartTable left right) = 0x02 ∷ (left ∷ (right ∷ []))
frame_bytes (frame.SetRow option s) = 0x03 ∷ (option ∷ set_bytes s)
frame_bytes (frame.EnterFormula left right kind difference) = 0x04 ∷ (left ∷ (right ∷ (kind ∷ (byte_of difference ∷ []))))
frame_bytes frame.Open = 0x05 ∷ []
frame_bytes frame.TightenAndOpen = 0x06 ∷ []
frame_bytes (frame.Choose field option) = 0x10 ∷ (field ∷ (option ∷ []))
frame_bytes (frame.Exclude field option) = 0x11 ∷ (field ∷ (option ∷ []))
frame_bytes frame.Settle = 0x12 ∷ []
frame_bytes frame.TakeBack = 0x13 ∷ []
frame_bytes (frame.Show field) = 0x14 ∷ (field ∷ [])

-- a signed byte
abbrev pub SignedByte : ℤ → Type 0
SignedByte (pos n) = n < 128
SignedByte (negsuc n) = n < 128

-- the numbers of a frame are bytes, and its set a word
abbrev pub Fits : Frame → Type 0
Fits (frame.EnterField field s) = (field < 256) × (s.word < 2 ^ 32)
Fits (frame.StartTable left right) = (left < 256) × (right < 256)
Fits (frame.SetRow option s) = (option < 256) × (s.word < 2 ^ 32)
Fits (frame.EnterFormula left right kind difference) = (left < 256) × ((right < 256) × ((kind < 256) × SignedByte difference))
Fits frame.Open = Unit {0}
Fits frame.TightenAndOpen = Unit {0}
Fits (frame.Choose field option) = (field < 256) × (option < 256)
Fits (frame.Exclude field option) = (field < 256) × (option < 256)
Fits frame.Settle = Unit {0}
Fits frame.TakeBack = Unit {0}
Fits (frame.Show field) = field < 256
