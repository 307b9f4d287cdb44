-- What taking a byte of a stream does to its session.
use Rattle.std.specs.Prelude.{◌≡◌, ℕ, ◌<◌, ◌≤◌, ◌⊎◌, List, [], ◌∷◌, ◌++◌, length, take, Ok, Err, Result, ◌≢◌}
use Rattle.faults.specs.declared.LineFault.TheVariants.{ShortBuffer}
use Rattle.faults.specs.declared.FrameFault.{FrameFault}
use Rattle.faults.specs.declared.FrameFault.TheVariants.{Line}
use Rattle.frames.specs.Lines.{line_feed, line_limit, line_reach}
use Rattle.session.specs.Pending.{kept}
use Rattle.session.specs.Steps.{state, Exchanged}
use Rattle.session.specs.declared.stream.Stream.{Stream}

-- the buffer is too short, and nothing changes
pub record TooShort (s : Stream) (out : List ℕ) (r : Result ℕ FrameFault) (out' : List ℕ) (s' : Stream) : Type 0 where
  pub room : length out < line_limit
  pub answer : r ≡ Err (Line ShortBuffer)
  pub buffer : out' ≡ out
  pub session : state s'.session ≡ state s.session
  pub pending : kept s'.line ≡ kept s.line

-- nothing is answered, and the line so far is kept
pub record Unanswered (s : Stream) (line out : List ℕ) (r : Result ℕ FrameFault) (out' : List ℕ) (s' : Stream) : Type 0 where
  pub room : line_limit ≤ length out
  pub answer : r ≡ Ok 0
  pub buffer : out' ≡ out
  pub session : state s'.session ≡ state s.session
  pub pending : kept s'.line ≡ take line_reach line

-- the line is answered, and the next one begins
pub record Ended (s : Stream) (line out : List ℕ) (r : Result ℕ FrameFault) (out' : List ℕ) (s' : Stream) : Type 0 where
  pub room : line_limit ≤ length out
  pub answer : Exchanged (state s.session) line out r out' (state s'.session)
  pub pending : kept s'.line ≡ []

-- a byte was taken, `line` being all bytes since the last line feed
abbrev pub Fed : Stream → List ℕ → ℕ → List ℕ → Result ℕ FrameFault → List ℕ → Stream → Type 0
Fed s line byte out r out' s' =
    TooShort s out r out' s'
    ⊎ (((byte ≢ line_feed) × Unanswered s (line ++ byte ∷ []) out r out' s')
    ⊎ ((byte ≡ line_feed) × Ended s (line ++ byte ∷ []) out r out' s'))

-- the stream came to its end
abbrev pub Finished : Stream → List ℕ → List ℕ → Result ℕ FrameFault → List ℕ → Stream → Type 0
Finished s line out r out' s' =
    TooShort s out r out' s'
    ⊎ (((line ≡ []) × Unanswered s line out r out' s')
    ⊎ ((line ≢ []) × Ended s line out r out' s'))
