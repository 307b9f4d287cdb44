-- What an accepted line is, and that the line of a frame reads back as that frame.
use Rattle.std.proofs.Common.{◌≡◌, ℕ, suc, ◌+◌, ◌-◌, ◌/◌, ◌%◌, ◌<◌, ◌≤◌, Bool, true, false, cond, eqb, ltb, List, [], ◌∷◌, ◌++◌, length, get_or, take, Some, None, Ok, Err, Option, Result, sym, refl, ap, ◌∙◌, inl, inr, arith}
use Rattle.std.proofs.lemmas.Bool.{cases_Bool, cond-true, cond-false, eqb-true, eqb-false, eq-eqb, ne_eqb, ltb-false, le-ltb}
use Rattle.std.proofs.lemmas.List.{length_push, get_or_push, take_more, take_all, take_at, append_cancel_right}
use Rattle.std.specs.List.{All}
use Rattle.faults.specs.declared.LineFault.{LineFault}
use Rattle.frames.specs.Lines.{digit, digits, line_of, IsFrame, ended, before_end, bad_digit, after_digits, reading}
use Rattle.frames.proofs.Digits.{all_fit, digit_tells, digit_is_digit, length_digits}

-- the line of a frame ends where its digits end
module _ (body : List ℕ) where
  pub ends : ended (body ++ 10 ∷ []) ≡ true
  ends =
      let last : length (body ++ 10 ∷ []) - 1 ≡ length body = omega (arith, length_push body 10) in
      ap (λ n. eqb (get_or (body ++ 10 ∷ []) n 0) 10) last ∙ eq-eqb _ _ (get_or_push body 10 0 (length body) refl)

  pub before : before_end (body ++ 10 ∷ []) ≡ body
  before =
      let size : length (body ++ 10 ∷ []) - cond (ended (body ++ 10 ∷ [])) 1 0 ≡ length body = ap (λ t. length (body ++ 10 ∷ []) - cond t 1 0) ends ∙ omega (arith, length_push body 10) in
      ap (λ n. take n (body ++ 10 ∷ [])) size ∙ take_at body (10 ∷ []) (length body) refl

-- a line that ends with a line feed is what stands before it, and the line feed
pub joined : (line : List ℕ) → ended line ≡ true → line ≡ before_end line ++ 10 ∷ []
joined [] e = cc
joined (b ∷ rest) e =
    let line = b ∷ rest in
    let k = length line - 1 in
    let last : get_or line k 0 ≡ 10 = eqb-true (get_or line k 0) 10 e in
    let size : length line - cond (ended line) 1 0 ≡ k = ap (λ t. length line - cond t 1 0) e in
    let more : take (k + 1) line ≡ line = take_all (k + 1) line (omega arith) in
    sym more ∙ take_more line k 0 (omega arith) ∙ ap (λ x. take k line ++ x ∷ []) last ∙ ap (λ n. take n line ++ 10 ∷ []) (sym size)

-- what is known of a line that is accepted
pub record Accepted (room : ℕ) (line : List ℕ) (n : ℕ) : Type 0 where
  pub wide : 16 ≤ room
  pub short : length (before_end line) ≤ 32
  pub good : bad_digit 0 (before_end line) ≡ None
  pub even : length (before_end line) % 2 ≡ 0
  pub some : length (before_end line) ≡ 0 → ⊥
  pub end : ended line ≡ true
  pub size : n ≡ length (before_end line) / 2

module _ {X : Type 0} where
  refused : (e : LineFault) (n : ℕ) → Err e ≡ Ok n → X
  refused e n h = let z : ◌≡◌ {A = ℕ} 0 1 = cc in absurd (omega arith)

pub no_fault : {X : Type 0} (n : ℕ) (e : LineFault) → Ok n ≡ Err e → X
no_fault n e h = refused e n (sym h)

pub told : (m n : ℕ) → ◌≡◌ {A = Result ℕ LineFault} (Ok m) (Ok n) → m ≡ n
told m n h = cc

-- a test that would refuse was not met
passes : (t : Bool) (e : LineFault) (r : Result ℕ LineFault) (n : ℕ) → cond t (Err e) r ≡ Ok n → (t ≡ false) × (r ≡ Ok n)
passes true e r n h = refused e n h
passes false e r n h = (refl, h)

met : (t : Bool) (e : LineFault) (r : Result ℕ LineFault) (n : ℕ) → cond t r (Err e) ≡ Ok n → (t ≡ true) × (r ≡ Ok n)
met true e r n h = (refl, h)
met false e r n h = refused e n h

after_parts : (body : List ℕ) (end : Bool) (o : Option ℕ) (n : ℕ) → after_digits body end o ≡ Ok n →
    (o ≡ None) × ((eqb (length body % 2) 1 ≡ false) × ((eqb (length body) 0 ≡ false) × ((end ≡ true) × (length body / 2 ≡ n))))
after_parts body end (Some place) n h = refused _ n h
after_parts body end None n h =
    let a = passes _ _ _ n h in
    let b = passes _ _ _ n a.1 in
    let c = met _ _ _ n b.1 in
    (refl, (a.0, (b.0, (c.0, told _ n c.1))))

pub accepted : (room : ℕ) (line : List ℕ) (n : ℕ) → reading room line ≡ Ok n → Accepted room line n
accepted room line n h =
    let a = passes _ _ _ n h in
    let b = passes _ _ _ n a.1 in
    let c = after_parts (before_end line) (ended line) (bad_digit 0 (before_end line)) n b.1 in
    record {
      wide = ltb-false room 16 a.0;
      short = ltb-false 32 (length (before_end line)) b.0;
      good = c.0;
      even = omega (arith, eqb-false (length (before_end line) % 2) 1 c.1.0);
      some = eqb-false (length (before_end line)) 0 c.1.1.0;
      end = c.1.1.1.0;
      size = sym c.1.1.1.1;
    }

-- the room counts only up to 16
pub same_reading : (room : ℕ) (line : List ℕ) → 16 ≤ room → reading 16 line ≡ reading room line
same_reading room line h = sym (cond-false (ltb room 16) _ _ (le-ltb room 16 h))

pub no_bad_digit : (bytes : List ℕ) (at : ℕ) → ((k : ℕ) → get_or bytes k 0 < 256) → bad_digit at (digits bytes) ≡ None
no_bad_digit [] at fit = refl
no_bad_digit (b ∷ bytes) at fit =
    let small = fit 0 in
    cond-true _ _ _ (digit_is_digit (b / 16) (omega arith)) ∙ cond-true _ _ _ (digit_is_digit (b % 16) (omega arith)) ∙ no_bad_digit bytes (at + 1 + 1) (λ k. fit (suc k))

-- the digits tell the bytes
pub digits_tell : (xs ys : List ℕ) → ((k : ℕ) → get_or xs k 0 < 256) → ((k : ℕ) → get_or ys k 0 < 256) → digits xs ≡ digits ys → xs ≡ ys
digits_tell [] [] fx fy e = refl
digits_tell [] (y ∷ ys) fx fy e = cc
digits_tell (x ∷ xs) [] fx fy e = cc
digits_tell (x ∷ xs) (y ∷ ys) fx fy e =
    let sx = fx 0 in
    let sy = fy 0 in
    let high : digit (x / 16) ≡ digit (y / 16) = cc in
    let low : digit (x % 16) ≡ digit (y % 16) = cc in
    let rest : digits xs ≡ digits ys = cc in
    let h = digit_tells (x / 16) (y / 16) (omega arith) (omega arith) high in
    let l = digit_tells (x % 16) (y % 16) (omega arith) (omega arith) low in
    let same : x ≡ y = omega arith in
    ap (λ z. z ∷ xs) same ∙ ap (λ zs. y ∷ zs) (digits_tell xs ys (λ k. fx (suc k)) (λ k. fy (suc k)) rest)

-- and a line tells its frame
pub line_tells : (xs ys : List ℕ) → IsFrame xs → IsFrame ys → line_of xs ≡ line_of ys → xs ≡ ys
line_tells xs ys fx fy e = digits_tell xs ys fx.fit fy.fit (append_cancel_right (digits xs) (digits ys) (10 ∷ []) e)

pub reads_back : (room : ℕ) (bytes : List ℕ) → 16 ≤ room → IsFrame bytes → reading room (line_of bytes) ≡ Ok (length bytes)
reads_back room bytes wide f =
    let size = length_digits bytes in
    let body : before_end (line_of bytes) ≡ digits bytes = before (digits bytes) in
    let half : length (digits bytes) / 2 ≡ length bytes = omega arith in
    cond-false _ _ _ (le-ltb room 16 wide)
    ∙ cond-false _ _ _ (ap (λ l. ltb 32 (length l)) body ∙ le-ltb 32 (length (digits bytes)) (omega (arith, f.few)))
    ∙ ap (λ l. after_digits l (ended (line_of bytes)) (bad_digit 0 l)) body
    ∙ ap (λ o. after_digits (digits bytes) (ended (line_of bytes)) o) (no_bad_digit bytes 0 f.fit)
    ∙ cond-false _ _ _ (ne_eqb (length (digits bytes) % 2) 1 (λ e. omega arith))
    ∙ cond-false _ _ _ (ne_eqb (length (digits bytes)) 0 (λ e. omega (arith, f.some)))
    ∙ cond-true _ _ _ (ends (digits bytes))
    ∙ ap Ok half

-- a line that is refused is the line of no frame
pub no_frame : {X : Type 0} (room : ℕ) (line : List ℕ) (fault : LineFault) → Err fault ≡ reading room line → (bytes : List ℕ) → IsFrame bytes → line ≡ line_of bytes → 16 ≤ room → X
no_frame room line fault e bytes f is wide = refused fault (length bytes) (e ∙ ap (reading room) is ∙ reads_back room bytes wide f)

-- a line that is accepted, once the bytes of its digits are known
module _ (line bytes : List ℕ) (is : digits bytes ≡ before_end line) where
  pub is_frame : length (before_end line) ≤ 32 → (length (before_end line) ≡ 0 → ⊥) → All (λ b. b < 256) bytes → IsFrame bytes
  is_frame short some small = record {
    some = omega (arith, some, ap length is, length_digits bytes);
    few = omega (arith, ap length is, length_digits bytes);
    fit = all_fit bytes small;
  }

  pub is_line : (length (before_end line) ≡ length line → ⊥) → line ≡ line_of bytes
  is_line shorter =
      elim (cases_Bool (ended line)) [
        | inl end ↦ joined line end ∙ ap (λ d. d ++ 10 ∷ []) (sym is)
        | inr open' ↦ absurd (shorter (ap (λ t. length (take (length line - cond t 1 0) line)) open' ∙ ap length (take_all (length line - 0) line (omega arith))))
      ]
