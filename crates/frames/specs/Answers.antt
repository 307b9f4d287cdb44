-- Answers, and their bytes.
use Rattle.std.specs.Prelude.{ℕ, ◌/◌, ◌%◌, List, [], ◌∷◌}
use Rattle.frames.specs.Frames.{set_bytes}
use Rattle.frames.specs.declared.answers.Answer.{Answer}
use Rattle.frames.specs.declared.answers.Answer.TheVariants.{Done, Shown, Settled, Refused}

-- the bytes of an answer: numbers of two bytes, and sets of four, highest first
abbrev pub answer_bytes : Answer → List ℕ
answer_bytes Done = 0x80 ∷ []
answer_bytes (Shown field s) = 0x81 ∷ (field ∷ set_bytes s)
answer_bytes (Settled struck standing) = 0x82 ∷ (struck / 256 % 256 ∷ (struck % 256 ∷ (standing / 256 % 256 ∷ (standing % 256 ∷ []))))
answer_bytes (Refused number line) = 0xff ∷ (number ∷ (line / 256 % 256 ∷ (line % 256 ∷ [])))
