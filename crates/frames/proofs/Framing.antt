-- Decoding undoes the bytes of a frame, both ways.
use Rattle.std.proofs.Common.{◌≡◌, ℕ, true, suc, ◌+◌, ◌-◌, ◌*◌, ◌/◌, ◌%◌, ◌^◌, ◌<◌, ◌≤◌, cond, eqb, List, [], ◌∷◌, length, get_or, map, ℤ, pos, negsuc, IfOk, Ok, Err, Result, sym, refl, ap, ◌∙◌, inl, inr, arith, lit<, lit≤}
use Rattle.std.specs.List.{AllByRecursion, range_with_len}
use Rattle.std.proofs.lemmas.Bool.{agree_below_at, cases_Bool, eqb-true, cond-true, cond-false, lt-ltb, le-ltb}
use Rattle.std.proofs.lemmas.List.Elements.{All-from_recursion}
use Rattle.std.proofs.lemmas.List.FromFn.{fill_by_all}
use Rattle.network.specs.declared.options.OptionSet.{OptionSet}
use Rattle.faults.specs.declared.FrameFault.{FrameFault}
use Rattle.faults.specs.declared.FrameFault.TheVariants as fault
use Rattle.frames.specs.declared.frames.Frame.{Frame}
use Rattle.frames.specs.declared.frames.Frame.TheVariants as frame
use Rattle.frames.specs.Lines.{IsFrame}
use Rattle.frames.proofs.Digits.{all_fit}
use Rattle.frames.specs.Frames.{set_at, signed, sized, decoding, set_bytes, byte_of, frame_bytes, SignedByte, Fits}

-- four bytes and a word
word_back : (k f : ℕ) (s : OptionSet) → s.word < 2 ^ 32 → set_at (k ∷ (f ∷ set_bytes s)) 2 ≡ s
word_back k f s h =
    let w = s.word in
    let low : w / 16777216 < 256 = omega arith in
    let top : w / 16777216 % 256 ≡ w / 16777216 = omega arith in
    let same : ((w / 16777216 % 256 * 256 + w / 65536 % 256) * 256 + w / 256 % 256) * 256 + w % 256 ≡ w = omega arith in
    ap (λ v. record { word = v }) same

-- a byte and a signed number
signed_back : (d : ℤ) → SignedByte d → signed (byte_of d) ≡ d
signed_back (pos n) h = cond-true _ _ _ (lt-ltb n 128 h)
signed_back (negsuc n) h = cond-false _ _ _ (le-ltb (255 - n) 128 (omega arith)) ∙ ap negsuc (omega arith)

pub decodes : (f : Frame) → Fits f → decoding (frame_bytes f) ≡ Ok f
decodes (frame.EnterField field s) h = ap (λ t. Ok (frame.EnterField field t)) (word_back 1 field s h.1)
decodes (frame.StartTable left right) h = refl
decodes (frame.SetRow option s) h = ap (λ t. Ok (frame.SetRow option t)) (word_back 3 option s h.1)
decodes (frame.EnterFormula left right kind difference) h = ap (λ d. Ok (frame.EnterFormula left right kind d)) (signed_back difference h.1.1.1)
decodes frame.Open h = refl
decodes frame.TightenAndOpen h = refl
decodes (frame.Choose field option) h = refl
decodes (frame.Exclude field option) h = refl
decodes frame.Settle h = refl
decodes frame.TakeBack h = refl
decodes (frame.Show field) h = refl

byte_back : (b : ℕ) → b < 256 → byte_of (signed b) ≡ b
byte_back b h = eqb-true _ _ (agree_below_at (λ k. eqb (byte_of (signed k)) k) (λ _. true) 256 b refl h)

module _ (bytes : List ℕ) (fit : (i : ℕ) → get_or bytes i 0 < 256) (f : Frame) where
  abbrev at : ℕ → ℕ
  at i = get_or bytes i 0

  -- so many bytes behind the first one
  abbrev behind : ℕ → List ℕ
  behind m = map at (range_with_len 1 m)

  word_at : set_bytes (set_at bytes 2) ≡ map at (range_with_len 2 4)
  word_at =
      let w = (set_at bytes 2).word in
      let a = fit 2 in
      let b = fit 3 in
      let c = fit 4 in
      let d = fit 5 in
      let p : w / 16777216 % 256 ≡ at 2 = omega arith in
      let q : w / 65536 % 256 ≡ at 3 = omega arith in
      let r : w / 256 % 256 ≡ at 4 = omega arith in
      let s : w % 256 ≡ at 5 = omega arith in
      cc

  -- a kind: where it is met, the bytes are as many and are those of its frame; else the next is tried
  kind : (k m : ℕ) (g : Frame) (rest : Result Frame FrameFault) → frame_bytes g ≡ k ∷ behind m → (rest ≡ Ok f → frame_bytes f ≡ bytes) →
      cond (eqb (at 0) k) (sized bytes (suc m) g) rest ≡ Ok f → frame_bytes f ≡ bytes
  kind k m g rest is other h =
      elim (cases_Bool (eqb (at 0) k)) [
        | inl met ↦
            let asked : sized bytes (suc m) g ≡ Ok f = sym (cond-true _ _ _ met) ∙ h in
            elim (cases_Bool (eqb (length bytes) (suc m))) [
              | inl whole ↦
                  let taken : Ok g ≡ Ok f = sym (cond-true _ _ _ whole) ∙ asked in
                  let same : g ≡ f = cc in
                  let spelled = fill_by_all at bytes (suc m) 0 (eqb-true _ _ whole) (λ i l. refl) in
                  ap frame_bytes (sym same) ∙ is ∙ ap (λ b. b ∷ behind m) (sym (eqb-true _ _ met)) ∙ sym spelled
              | inr cut ↦ let refused : Err fault.Length ≡ Ok f = sym (cond-false _ _ _ cut) ∙ asked in cc
            ]
        | inr not-met ↦ other (sym (cond-false _ _ _ not-met) ∙ h)
      ]

  unknown : Err fault.Unknown ≡ Ok f → frame_bytes f ≡ bytes
  unknown h = cc

  pub encodes : decoding bytes ≡ Ok f → frame_bytes f ≡ bytes
  encodes h =
      let byte = byte_back (at 4) (fit 4) in
      let any =
      kind 0x01 5 (frame.EnterField (at 1) (set_at bytes 2)) _ (ap (λ l. 0x01 ∷ (at 1 ∷ l)) word_at)
      (kind 0x02 2 (frame.StartTable (at 1) (at 2)) _ refl
      (kind 0x03 5 (frame.SetRow (at 1) (set_at bytes 2)) _ (ap (λ l. 0x03 ∷ (at 1 ∷ l)) word_at)
      (kind 0x04 4 (frame.EnterFormula (at 1) (at 2) (at 3) (signed (at 4))) _ (ap (λ b. 0x04 ∷ (at 1 ∷ (at 2 ∷ (at 3 ∷ (b ∷ []))))) byte)
      (kind 0x05 0 frame.Open _ refl
      (kind 0x06 0 frame.TightenAndOpen _ refl
      (kind 0x10 2 (frame.Choose (at 1) (at 2)) _ refl
      (kind 0x11 2 (frame.Exclude (at 1) (at 2)) _ refl
      (kind 0x12 0 frame.Settle _ refl
      (kind 0x13 0 frame.TakeBack _ refl
      (kind 0x14 1 (frame.Show (at 1)) _ refl unknown)))))))))) in
      elim (cases_Bool (eqb (length bytes) 0)) [
        | inl empty ↦ unknown (sym (cond-true _ _ _ empty) ∙ h)
        | inr some ↦ any (sym (cond-false _ _ _ some) ∙ h)
      ]

abbrev IsByte : ℕ → Type 0
IsByte b = b < 256

word : (s : OptionSet) → s.word < 2 ^ 32 → AllByRecursion IsByte (set_bytes s)
word s h = (omega arith, (omega arith, (omega arith, (omega arith, tt))))

signed_small : (d : ℤ) → SignedByte d → byte_of d < 256
signed_small (pos n) h = omega arith
signed_small (negsuc n) h = omega arith

are_bytes : (f : Frame) → Fits f → AllByRecursion IsByte (frame_bytes f)
are_bytes (frame.EnterField field s) h = (lit< tt, (h.0, word s h.1))
are_bytes (frame.StartTable left right) h = (lit< tt, (h.0, (h.1, tt)))
are_bytes (frame.SetRow option s) h = (lit< tt, (h.0, word s h.1))
are_bytes (frame.EnterFormula left right kind difference) h = (lit< tt, (h.0, (h.1.0, (h.1.1.0, (signed_small difference h.1.1.1, tt)))))
are_bytes frame.Open h = (lit< tt, tt)
are_bytes frame.TightenAndOpen h = (lit< tt, tt)
are_bytes (frame.Choose field option) h = (lit< tt, (h.0, (h.1, tt)))
are_bytes (frame.Exclude field option) h = (lit< tt, (h.0, (h.1, tt)))
are_bytes frame.Settle h = (lit< tt, tt)
are_bytes frame.TakeBack h = (lit< tt, tt)
are_bytes (frame.Show field) h = (lit< tt, (h, tt))

few : (f : Frame) → (0 < length (frame_bytes f)) × (length (frame_bytes f) ≤ 16)
few (frame.EnterField field s) = (lit< tt, lit≤ tt)
few (frame.StartTable left right) = (lit< tt, lit≤ tt)
few (frame.SetRow option s) = (lit< tt, lit≤ tt)
few (frame.EnterFormula left right kind difference) = (lit< tt, lit≤ tt)
few frame.Open = (lit< tt, lit≤ tt)
few frame.TightenAndOpen = (lit< tt, lit≤ tt)
few (frame.Choose field option) = (lit< tt, lit≤ tt)
few (frame.Exclude field option) = (lit< tt, lit≤ tt)
few frame.Settle = (lit< tt, lit≤ tt)
few frame.TakeBack = (lit< tt, lit≤ tt)
few (frame.Show field) = (lit< tt, lit≤ tt)

pub is_frame : (f : Frame) → Fits f → IsFrame (frame_bytes f)
is_frame f h = record { some = (few f).0; few = (few f).1; fit = all_fit (frame_bytes f) (All-from_recursion IsByte (frame_bytes f) (are_bytes f h)) }

-- what holds of each frame that a result can be holds of the result
pub made_of : (r : Result Frame FrameFault) (P : Frame → Type 0) → ((f : Frame) → r ≡ Ok f → P f) → IfOk r P
made_of (Ok f) P h = h f refl
made_of (Err e) P h = tt
