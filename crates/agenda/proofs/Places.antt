-- The ring of an agenda, by the sequence that stands in it.
use Rattle.std.proofs.Common.{◌≡◌, ℕ, ◌+◌, ◌-◌, ◌%◌, ◌<◌, List, true, false, [], ◌∷◌, ◌++◌, length, get_or, drop, set, Some, sym, ◌∙◌, subst, arith}
use Rattle.agenda.specs.Waiting.{number_limit, Same, with_one, without, Taken}
use Rattle.agenda.specs.Sequence.{among, first_of}
use Rattle.agenda.specs.Numbered.{numbers}
use Rattle.agenda.specs.Ring.{around, apart}
use Rattle.agenda.specs.declared.numbers.NumberSet.{NumberSet}
use Rattle.agenda.specs.declared.first.FirstCome.{FirstCome}
use Rattle.agenda.proofs.NumberSets.{numbers_within}
use Rattle.agenda.proofs.Sequences.{among_push, apart_push, apart_rest, first_taken, waits_length}
use Rattle.agenda.proofs.Rings.{length_around, around_put, around_take}
use Rattle.agenda.proofs.Waits.{waits_room}

-- the sequence that stands in the ring
abbrev pub ring : FirstCome → List ℕ
ring f = around f.places f.first f.count

-- the marks m are those of a sequence in which no number comes twice
abbrev pub Marked : NumberSet → List ℕ → Type 0
Marked m ns = ((k : ℕ) → numbers m k ≡ among ns k) × (apart ns ≡ true)

-- a number that waits is one of the agenda's
below : (f : FirstCome) → length f.marks.words ≡ 8 → (k : ℕ) → among (ring f) k ≡ true → k < number_limit
below f words k h = numbers_within f.marks k words (f.marked k ∙ h)

-- so where one does not wait, a place is free
pub room : (f : FirstCome) (n : ℕ) → n < number_limit → numbers f.marks n ≡ false → length f.marks.words ≡ 8 → f.count < number_limit
room f n lt off words =
    let all = waits_length (ring f) number_limit f.once (below f words) in
    let free = waits_room (among (ring f)) n number_limit lt (sym (f.marked n) ∙ off) in
    omega (arith, length_around f.places f.first f.count)

-- a new number in the place behind the last
module _ (f : FirstCome) (n : ℕ) (lt : n < number_limit) (off : numbers f.marks n ≡ false)
    (size : length f.places ≡ 512) (words : length f.marks.words ≡ 8) where
  pub put_ring : around (set f.places ((f.first + f.count) % 512) n) f.first (f.count + 1) ≡ ring f ++ n ∷ []
  put_ring = around_put f.places f.first f.count n size (room f n lt off words)

  pub put_marked : (marks : NumberSet) → Same (with_one (numbers f.marks) n) (numbers marks) →
      Marked marks (around (set f.places ((f.first + f.count) % 512) n) f.first (f.count + 1))
  put_marked marks after = rw put_ring (λ k. after k ∙ rw (f.marked k) (sym (among_push (ring f) n k)), apart_push (ring f) n f.once (sym (f.marked n) ∙ off))

-- the first number taken
module _ (f : FirstCome) (some : f.count ≡ 0 → ⊥) where
  pub take_ring : ring f ≡ get_or f.places f.first 0 ∷ around f.places ((f.first + 1) % 512) (f.count - 1)
  take_ring = around_take f.places f.first f.count f.within (omega arith)

  pub take_taken : Taken (among (ring f)) (Some (get_or f.places f.first 0)) (among (around f.places ((f.first + 1) % 512) (f.count - 1)))
  take_taken = subst (λ ns. Taken (among (ring f)) (first_of ns) (among (drop 1 ns))) take_ring (first_taken (ring f) f.once)

  pub take_below : length f.marks.words ≡ 8 → get_or f.places f.first 0 < number_limit
  take_below words = below f words (get_or f.places f.first 0) take_taken.0

  pub take_marked : (marks : NumberSet) → Same (without (numbers f.marks) (get_or f.places f.first 0)) (numbers marks) →
      Marked marks (around f.places ((f.first + 1) % 512) (f.count - 1))
  take_marked marks after = (λ k. after k ∙ rw (f.marked k) (sym (take_taken.1 k)), subst (λ ns. apart (drop 1 ns) ≡ true) take_ring (apart_rest (ring f) f.once))
