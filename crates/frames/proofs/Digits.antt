-- Digits of bytes: how many there are, and that they tell the bytes.
use Rattle.std.proofs.Common.{◌≡◌, ℕ, zero, suc, ◌+◌, ◌*◌, ◌/◌, ◌%◌, ◌<◌, ◌≤◌, true, false, cond, List, [], ◌∷◌, ◌++◌, length, get_or, map, take, drop, set, Some, None, sym, refl, ap, ◌∙◌, inl, inr, arith, lit<}
use Rattle.std.proofs.lemmas.Bool.{cases_lt, cases_Bool, cond-true, cond-false, lt-ltb, le-ltb, agree_below_at}
use Rattle.std.proofs.lemmas.Bool.Decides.{nat_tests}
use Rattle.std.proofs.lemmas.List.{append_assoc, set_at, length_push, get_or_past, get_or-take, get_or-drop, drop_more, take_more, map-append}
use Rattle.std.specs.List.{All}
use Rattle.std.specs.Simd.{first_chunks}
use Rattle.frames.specs.Lines.{digit, digits, is_digit, bad_digit}

pub digit_low : (n : ℕ) → n < 10 → digit n ≡ 48 + n
digit_low n h = cond-true _ _ _ (lt-ltb n 10 h)

pub digit_high : (n : ℕ) → 10 ≤ n → digit n ≡ 55 + n
digit_high n h = cond-false _ _ _ (le-ltb n 10 h)

-- each number has its own digit
pub digit_tells : (m n : ℕ) → m < 16 → n < 16 → digit m ≡ digit n → m ≡ n
digit_tells m n hm hn e = grind (arith, nat_tests)

pub digit_is_digit : (n : ℕ) → n < 16 → is_digit (digit n) ≡ true
digit_is_digit n h = agree_below_at (λ k. is_digit (digit k)) (λ _. true) 16 n refl h

-- where each element of a list is a byte, so is what stands at any place
pub all_fit : (bytes : List ℕ) → All (λ b. b < 256) bytes → (k : ℕ) → get_or bytes k 0 < 256
all_fit bytes small k = elim (cases_lt k (length bytes)) [ inl inside ↦ small k 0 inside | inr past ↦ omega (arith, get_or_past bytes k 0 past) ]

pub length_digits : (bytes : List ℕ) → length (digits bytes) ≡ 2 * length bytes
length_digits [] = refl
length_digits (b ∷ bytes) = omega (arith, length_digits bytes)

pub digits_append : (xs ys : List ℕ) → digits (xs ++ ys) ≡ digits xs ++ digits ys
digits_append [] ys = refl
digits_append (x ∷ xs) ys = ap (λ l. digit (x / 16) ∷ (digit (x % 16) ∷ l)) (digits_append xs ys)

-- one byte more
pub digits_more : (bytes : List ℕ) (i : ℕ) → i < length bytes →
    digits (take (i + 1) bytes) ≡ digits (take i bytes) ++ digit (get_or bytes i 0 / 16) ∷ (digit (get_or bytes i 0 % 16) ∷ [])
digits_more bytes i h = ap digits (take_more bytes i 0 h) ∙ digits_append (take i bytes) (get_or bytes i 0 ∷ [])

-- two digits written behind those that are there
pub written_more : (done line : List ℕ) (i x y : ℕ) → length done ≡ 2 * i → 2 * i + 1 < length line →
    set (set (done ++ drop (2 * i) line) (2 * i) x) (2 * i + 1) y ≡ (done ++ x ∷ (y ∷ [])) ++ drop (2 * (i + 1)) line
written_more done line i x y size room =
    let a = get_or line (2 * i) 0 in
    let b = get_or line (2 * i + 1) 0 in
    let rest = drop (2 * i + 1 + 1) line in
    let two : drop (2 * i) line ≡ a ∷ (b ∷ rest) = drop_more line (2 * i) 0 (omega arith) ∙ ap (λ l. a ∷ l) (drop_more line (2 * i + 1) 0 room) in
    let end : 2 * i + 1 + 1 ≡ 2 * (i + 1) = omega arith in
    ap (λ l. set (set (done ++ l) (2 * i) x) (2 * i + 1) y) two
    ∙ ap (λ l. set l (2 * i + 1) y) (set_at done a (b ∷ rest) x (2 * i) size ∙ sym (append_assoc done (x ∷ []) (b ∷ rest)))
    ∙ set_at (done ++ x ∷ []) b rest y (2 * i + 1) (length_push done x ∙ ap (λ n. n + 1) size)
    ∙ append_assoc done (x ∷ []) (y ∷ rest) ∙ sym (append_assoc done (x ∷ (y ∷ [])) rest)
    ∙ ap (λ n. (done ++ x ∷ (y ∷ [])) ++ drop n line) end

-- the line feed behind the digits
pub ended_by : (done line : List ℕ) (n : ℕ) → length done ≡ n → n < length line →
    set (done ++ drop n line) n 10 ≡ (done ++ 10 ∷ []) ++ drop (n + 1) line
ended_by done line n size room =
    ap (λ l. set (done ++ l) n 10) (drop_more line n 0 room)
    ∙ set_at done (get_or line n 0) (drop (n + 1) line) 10 n size
    ∙ sym (append_assoc done (10 ∷ []) (drop (n + 1) line))

-- a search for what is no digit, one byte on
module _ (bytes : List ℕ) (i : ℕ) (in_range : i < length bytes) where
  split : bad_digit i (drop i bytes) ≡ cond (is_digit (get_or bytes i 0)) (bad_digit (i + 1) (drop (i + 1) bytes)) (Some i)
  split = ap (bad_digit i) (drop_more bytes i 0 in_range)

  pub bad_here : is_digit (get_or bytes i 0) ≡ false → bad_digit i (drop i bytes) ≡ Some i
  bad_here h = split ∙ cond-false _ _ _ h

  pub bad_later : is_digit (get_or bytes i 0) ≡ true → bad_digit (i + 1) (drop (i + 1) bytes) ≡ bad_digit i (drop i bytes)
  bad_later h = sym (split ∙ cond-true _ _ _ h)

-- where nothing bad is found, each byte is a digit
pub all_digits : (bytes : List ℕ) (at : ℕ) → bad_digit at bytes ≡ None → (k : ℕ) → k < length bytes → is_digit (get_or bytes k 0) ≡ true
all_digits [] at e k h = absurd (omega arith)
all_digits (b ∷ bytes) at e zero h =
    elim (cases_Bool (is_digit b)) [
      | inl good ↦ good
      | inr bad ↦
          let f : Some at ≡ None = sym (cond-false (is_digit b) (bad_digit (at + 1) bytes) (Some at) bad) ∙ e in
          let z : ◌≡◌ {A = ℕ} 0 1 = cc in
          absurd (omega arith)
    ]
all_digits (b ∷ bytes) at e (suc k) h =
    elim (cases_Bool (is_digit b)) [
      | inl good ↦ all_digits bytes (at + 1) (sym (cond-true (is_digit b) (bad_digit (at + 1) bytes) (Some at) good) ∙ e) k (omega arith)
      | inr bad ↦
          let f : Some at ≡ None = sym (cond-false (is_digit b) (bad_digit (at + 1) bytes) (Some at) bad) ∙ e in
          let z : ◌≡◌ {A = ℕ} 0 1 = cc in
          absurd (omega arith)
    ]

-- where the numbers of a pair stand
pub pair_at : (n i j : ℕ) (numbers : List ℕ) → i < n → j < 2 → get_or (get_or (first_chunks 2 n numbers) i []) j 0 ≡ get_or numbers (2 * i + j) 0
pair_at zero i j numbers hi hj = absurd (omega arith)
pair_at (suc n) zero j numbers hi hj = get_or-take 2 numbers j 0 hj ∙ ap (λ k. get_or numbers k 0) (omega arith)
pair_at (suc n) (suc i) j numbers hi hj =
    pair_at n i j (drop 2 numbers) (omega arith) hj ∙ get_or-drop 2 numbers (2 * i + j) 0 ∙ ap (λ k. get_or numbers k 0) (omega arith)

-- one byte more is joined from a pair of numbers
module _ (numbers : List ℕ) (pairs : List (List ℕ)) (is : pairs ≡ first_chunks 2 (length numbers / 2) numbers) (size : length pairs ≡ length numbers / 2) (i : ℕ) (in_range : i < length pairs)
    (small : All (λ n. n < 16) numbers) where
  abbrev part : ℕ → ℕ
  part j = get_or (get_or pairs i []) j 0

  stands : (j : ℕ) → j < 2 → part j ≡ get_or numbers (2 * i + j) 0
  stands j h = ap (λ l. get_or (get_or l i []) j 0) is ∙ pair_at (length numbers / 2) i j numbers (omega arith) h

  pub parts_small : (part 0 < 16) × (part 1 < 16)
  parts_small = (omega (arith, stands 0 (lit< tt), small (2 * i + 0) 0 (omega arith)), omega (arith, stands 1 (lit< tt), small (2 * i + 1) 0 (omega arith)))

  pub joined_more : (bytes : List ℕ) → digits bytes ≡ map digit (take (2 * i) numbers) → digits (bytes ++ (16 * part 0 + part 1) ∷ []) ≡ map digit (take (2 * (i + 1)) numbers)
  joined_more bytes so_far =
      let v = 16 * part 0 + part 1 in
      let a = get_or numbers (2 * i) 0 in
      let b = get_or numbers (2 * i + 1) 0 in
      let front = take (2 * i) numbers in
      let first : v / 16 ≡ part 0 = omega (arith, parts_small.1) in
      let second : v % 16 ≡ part 1 = omega (arith, parts_small.1) in
      let high : part 0 ≡ a = stands 0 (lit< tt) ∙ ap (λ k. get_or numbers k 0) (omega arith) in
      let end : 2 * (i + 1) ≡ 2 * i + 1 + 1 = omega arith in
      let two : take (2 * (i + 1)) numbers ≡ front ++ a ∷ (b ∷ []) =
      ap (λ n. take n numbers) end ∙ take_more numbers (2 * i + 1) 0 (omega arith) ∙ ap (λ l. l ++ b ∷ []) (take_more numbers (2 * i) 0 (omega arith)) ∙ append_assoc front (a ∷ []) (b ∷ []) in
      digits_append bytes (v ∷ []) ∙ ap (λ d. d ++ digit (v / 16) ∷ (digit (v % 16) ∷ [])) so_far
      ∙ ap (λ x. map digit front ++ digit x ∷ (digit (v % 16) ∷ [])) (first ∙ high) ∙ ap (λ y. map digit front ++ digit a ∷ (digit y ∷ [])) (second ∙ stands 1 (lit< tt))
      ∙ sym (ap (map digit) two ∙ map-append digit front (a ∷ (b ∷ [])))
