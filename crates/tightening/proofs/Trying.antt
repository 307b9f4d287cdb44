-- Trying out a probe's sets: what it starts from, and what its outcome tells of the probe.
use Rattle.std.proofs.Common.{◌≡◌, ℕ, zero, suc, ◌*◌, ◌^◌, ◌<◌, ◌≤◌, Bool, true, false, cond, not, ◌||◌, T, eqb, ◌≢◌, List, [], ◌∷◌, length, get_or, is_err, Ok, Err, Result, sym, refl, ap, ◌∙◌, subst, ⊎_elim, arith, MatchResult}
use Rattle.std.proofs.lemmas.Grind.{common_steps}
use native.Mathlib.Nat.{min_comm, min-eq_left}
use Rattle.std.proofs.lemmas.Bool.{cases_eq, cases_lt, eq-eqb, ne_eqb, eqb-true, eqb-false}
use Rattle.network.specs.Network.{has, Rule, Part, part, words, Within, InLargest, Largest}
use Rattle.network.specs.declared.options.OptionSet.{OptionSet}
use Rattle.network.proofs.Words.{length_words}
use Rattle.network.proofs.Truth.{T_yes, T_no, no_T}
use lib.Count.{ones-le}
use Rattle.network.proofs.Bits.{none_of_zero, has_pow}
use Rattle.books.specs.Pairs.{Pairs, pairs_of, pair_rules, pair_book}
use Rattle.propagation.specs.Opening.{Accepted, IsWipedOut}
use Rattle.propagation.specs.Progress.{Filled, SettledOn, WipedFrom}
use Rattle.propagation.specs.declared.record.WipedOut.{WipedOut}
use Rattle.propagation.specs.Refusals.{any, empty}
use Rattle.propagation.specs.Strikes.{options, Struck, without}
use Rattle.propagation.specs.Undo.{Fit}
use Rattle.propagation.specs.declared.record.Strike.{Strike}
use Rattle.propagation.proofs.Strikes.{shrinks, is_field, struck_gone}
use Rattle.tightening.specs.Tightening.{narrowed, row}
use Rattle.tightening.specs.Underway.{Consistent}
use Rattle.tightening.specs.Rows.{InTable, TwoWay, pairs_in, word_to, row_word}
use Rattle.tightening.specs.Outcomes.{LostOne, Tried}
use Rattle.tightening.specs.declared.rows.Choice.{Choice}
use Rattle.tightening.proofs.Theory.{largest_within, narrowed_within, narrowed_to, narrowed_in, probed_pair}
use Rattle.tightening.proofs.PairWords.{pairs_at, pairs_range, pair_accepted}

-- no set is empty, or one is
pub none_empty : (sets : List ℕ) → any empty sets ≡ false → Filled sets
none_empty [] h x l = absurd (omega arith)
none_empty (w ∷ ws) h zero l = ⊎_elim (λ e. absurd (T_no _ h (T_yes (empty w || any empty ws) (ap (λ t. t || any empty ws) (eq-eqb w 0 e))))) (λ ne. omega arith) (cases_eq w 0)
none_empty (w ∷ ws) h (suc x) l = none_empty ws (rest (empty w) (any empty ws) h) x (omega arith)
  where
    rest : (a b : Bool) → (a || b) ≡ false → b ≡ false
    rest true b e = absurd (T_no true e tt)
    rest false b e = e

pub one_empty : (sets : List ℕ) → any empty sets ≡ true → (x : ℕ) × ((x < length sets) × (get_or sets x 0 ≡ 0))
one_empty [] h = absurd (T_no false refl (T_yes false h))
one_empty (w ∷ ws) h =
    ⊎_elim
    (λ (e : w ≡ 0). (0, (omega arith, e)))
    (λ ne. let m = one_empty ws (rest (empty w) (any empty ws) (ne_eqb w 0 ne) h) in (suc m.0, (omega (arith, m.1.0), m.1.1)))
    (cases_eq w 0)
  where
    rest : (a b : Bool) → a ≡ false → (a || b) ≡ true → b ≡ true
    rest true b e h = absurd (T_no true e tt)
    rest false b e h = h

-- an empty set is empty in the largest part
pub wiped_empty : (rules : List Rule) (sets : List ℕ) → any empty sets ≡ true → IsWipedOut rules (length sets) (part sets)
wiped_empty rules sets h = grind (arith, common_steps, largest_within, none_of_zero, one_empty)

-- up to 16 fields the book has just their rules
pub book_rules : (n : ℕ) (words : List ℕ) → n ≤ 16 → pair_book n words ≡ pair_rules n (pairs_of n words)
book_rules n words h = ap (λ k. pair_rules k (pairs_of k words)) (min_comm 16 n ∙ min-eq_left h)

-- 16 sets have at most 512 options
pub few_options : (sets : List ℕ) → Fit sets → options sets ≤ 32 * length sets
few_options [] fit = omega arith
few_options (w ∷ ws) fit = omega (arith, few_options ws (λ x. fit (suc x)), ones-le 32 w (fit 0))

-- a strike takes an option away for good
pub struck_one : (rules : List Rule) (found : List Strike) (sets last : List ℕ) → Struck rules [] sets found last → 0 < length found → LostOne sets last
struck_one rules [] sets last h l = absurd (omega arith)
struck_one rules (s ∷ rest) sets last h l =
    (s.field, (s.option, (h.0, λ t. struck_gone sets s.field s.option h.0 (shrinks rules [] rest (without sets s.field s.option) last h.1.1 s.field s.option t))))

-- no strike changes nothing
pub struck_none : (rules : List Rule) (found : List Strike) (sets last : List ℕ) → Struck rules [] sets found last → length found ≡ 0 → last ≡ sets
struck_none rules [] sets last h e = h
struck_none rules (s ∷ rest) sets last h e = absurd (omega (arith, e))

-- THE SETS OF A ROW
module _ (r : Choice) (words sets : List ℕ) (at : InTable r words) (long : length sets ≡ r.fields) (two : TwoWay (pairs_in r words)) (is : (y : ℕ) → y < r.fields → get_or sets y 0 ≡ row_word r words y) where
  abbrev n : ℕ
  n = r.fields

  abbrev x : ℕ
  x = r.field

  abbrev a : ℕ
  a = r.option

  abbrev q : Pairs
  q = pairs_in r words

  pub row_part : (y b : ℕ) → part sets y b ≡ row q x a y b
  row_part y b =
      ⊎_elim
      (λ (e : x ≡ y).
      ap (λ w. has w b) (is y (omega (arith, at.field, e)) ∙ ap (λ t. cond t (2 ^ a) (word_to r words y)) (eq-eqb x y e))
      ∙ has_pow a b ∙ turned a b ∙ sym (ap (λ t. cond t (eqb a b) (q x a y b)) (eq-eqb x y e)))
      (λ (ne : x ≢ y). ⊎_elim
      (λ (l : y < n).
      ap (λ w. has w b) (is y l ∙ ap (λ t. cond t (2 ^ a) (word_to r words y)) (ne_eqb x y ne))
      ∙ sym (pairs_at n words x a y b at.field at.option (omega (arith, l, at.few)))
      ∙ sym (ap (λ t. cond t (eqb a b) (q x a y b)) (ne_eqb x y ne)))
      (λ (g : n ≤ y).
      no_T (part sets y b) (λ t. absurd (omega (arith, is_field sets y b t, long, g)))
      ∙ sym (no_T (q x a y b) (λ t. absurd (omega (arith, (pairs_range n words y b x a (two.mirrored x a y b t)).first, g))))
      ∙ sym (ap (λ t. cond t (eqb a b) (q x a y b)) (ne_eqb x y ne)))
      (cases_lt y n))
      (cases_eq x y)
    where
      turned : (i j : ℕ) → eqb j i ≡ eqb i j
      turned i j = ⊎_elim (λ e. eq-eqb j i e ∙ sym (eq-eqb i j (sym e))) (λ ne. ne_eqb j i ne ∙ sym (ne_eqb i j (λ e. ne (sym e)))) (cases_eq j i)

-- A PROBE BY ITS ROW
-- the options of a row over kept pairs are among those of the probe, and the largest part of the probe is in the row
module _ (rules : List Rule) (first : List ℕ) (p : Part) (q : Pairs) (standing : Consistent rules first p q) (x a : ℕ) (kept : T (p x a)) where
  abbrev fields : ℕ
  fields = length first

  abbrev own : List Rule
  own = pair_rules fields q

  row_in : Within (row q x a) (narrowed p x a)
  row_in y b t = grind (arith, common_steps, eq-eqb, narrowed_in, ne_eqb)

  field_of : (y b : ℕ) → T (p y b) → y < fields
  field_of y b t = is_field first y b (standing.options y b t)

  in_row : (y b : ℕ) → InLargest own (narrowed p x a) y b → T (row q x a y b)
  in_row y b i =
      let t = largest_within own (narrowed p x a) y b i in
      ⊎_elim
      (λ (e : x ≡ y).
      let same : b ≡ a = narrowed_to p x a b (subst (λ z. T (narrowed p x a z b)) (sym e) t) in
      subst T (sym (ap (λ i. cond i (eqb a b) (q x a y b)) (eq-eqb x y e))) (T_yes _ (eq-eqb a b (sym same))))
      (λ (ne : x ≢ y).
      subst T (sym (ap (λ i. cond i (eqb a b) (q x a y b)) (ne_eqb x y ne)))
      (probed_pair fields q p x a y b (field_of x a kept) (field_of y b (narrowed_within p x a y b t)) ne i).0)
      (cases_eq x y)

  -- so both have the same largest part
  forth : (sets : List ℕ) → ((y b : ℕ) → part sets y b ≡ row q x a y b) → (y b : ℕ) → InLargest own (part sets) y b → InLargest own (narrowed p x a) y b
  forth sets is y b i = (i.0, (λ z c t. row_in z c (subst T (is z c) (i.1.0 z c t)), i.1.1))

  back : (sets : List ℕ) → ((y b : ℕ) → part sets y b ≡ row q x a y b) → (y b : ℕ) → InLargest own (narrowed p x a) y b → InLargest own (part sets) y b
  back sets is y b i =
      (i.0, (λ z c t. subst T (sym (is z c)) (in_row z c (i.0, (i.1.0, (i.1.1.0, t)))), i.1.1))

  pub row_largest : (sets : List ℕ) → ((y b : ℕ) → part sets y b ≡ row q x a y b) → (l : Part) → Largest own (part sets) l → Largest own (narrowed p x a) l
  row_largest sets is l h = record {
    all = λ y b t. forth sets is y b (h.all y b t);
    only = λ y b i. h.only y b (back sets is y b i);
  }

  pub row_wiped : (sets : List ℕ) → ((y b : ℕ) → part sets y b ≡ row q x a y b) → IsWipedOut own fields (part sets) → IsWipedOut own fields (narrowed p x a)
  row_wiped sets is w = (w.0, (w.1.0, λ b i. w.1.1 b (back sets is w.0 b i)))

-- THE BOOK OF A PROBE
module _ (sets pairs pairs' : List OptionSet) (n f : ℕ) (long : length sets ≡ n) (is : f ≡ length sets) (same : pairs' ≡ pairs) (few : n ≤ 16) where
  pub book_is : pair_book f (words pairs') ≡ pair_rules n (pairs_of n (words pairs))
  book_is = grind (arith, common_steps, book_rules)

  pub probe_accepted : 0 < n → any empty (words sets) ≡ false → Fit (words sets) → Accepted (pair_book f (words pairs')) (words sets)
  probe_accepted some full fit =
      let all = length_words sets ∙ long in
      subst (λ rs. Accepted rs (words sets)) (ap (λ k. pair_rules k (pairs_of k (words pairs))) all ∙ sym book_is)
      (pair_accepted (words sets) (pairs_of (length (words sets)) (words pairs)) (omega (arith, some, all)) (omega (arith, few, all)) fit (none_empty (words sets) full))

-- a propagation that came out well, and one that did not
pub settled_well : (P : Type 0) (Q : WipedOut → Type 0) (r : Result (Unit {0}) WipedOut) → is_err r ≡ false → MatchResult r (λ _. P) Q → P
settled_well P Q (Ok x) e h = h
settled_well P Q (Err why) e h = absurd (T_no true e tt)

pub settled_badly : (rules : List Rule) (sets : List ℕ) (P : Type 0) (r : Result (Unit {0}) WipedOut) → is_err r ≡ true → MatchResult r (λ _. P) (λ w. WipedFrom rules sets w) → IsWipedOut rules (length sets) (part sets)
settled_badly rules sets P (Ok x) e h = absurd (T_yes false e)
settled_badly rules sets P (Err w) e h = (w.field, (h.field, h.emptied))

-- a trial that came out well, told by whether there is no strike
pub tried_well : (rules : List Rule) (first last : List ℕ) (found : List Strike) (none : Bool) → SettledOn rules first last → Struck rules [] first found last → none ≡ eqb (length found) 0 → Tried rules first last (Ok (not none))
tried_well rules first last found true s st e = (s, struck_none rules found first last st (eqb-true (length found) 0 (sym e)))
tried_well rules first last found false s st e =
    let ne = eqb-false (length found) 0 (sym e) in (s, struck_one rules found first last st (omega arith))
