-- The end of a tightening.
use Rattle.std.proofs.Common.{◌≡◌, ℕ, ◌*◌, ◌<◌, ◌≤◌, true, false, T, List, ◌++◌, length, get_or, take, drop, Some, None, Ok, Err, Option, Result, is_err, OnOk, OnErr, IfOk, sym, refl, ap, ◌∙◌, subst, inr, arith, MatchResult}
use Rattle.std.proofs.lemmas.Grind.{common_steps}
use Rattle.faults.specs.declared.EngineFault.{EngineFault}
use Rattle.network.specs.Network.{Rule, part, words}
use Rattle.network.specs.declared.options.OptionSet.{OptionSet}
use Rattle.std.proofs.lemmas.Bool.{true≢false}
use Rattle.network.proofs.Truth.{same_test}
use Rattle.network.proofs.Bits.{has_below}
use Rattle.std.proofs.lemmas.List.{length-append, length-drop, get_or_append_left, map-append, drop-map, take-append-drop}
use Rattle.std.proofs.lemmas.Slice.{drop-append-drop}
use Rattle.tightening.proofs.PairWords.{pairs_at, pairs_range, word_below}
use Rattle.agenda.specs.Waiting.{Waiting}
use Rattle.books.specs.Pairs.{pairs_of}
use Rattle.propagation.specs.Opening.{Accepted}
use Rattle.propagation.specs.Refusals.{answer}
use Rattle.propagation.specs.Progress.{Filled}
use Rattle.tightening.specs.Start.{Standing, StayBeyond}
use Rattle.tightening.specs.Done.{tighten_refusal, Tightened, NotTightened, TightensCopy, Tightens}
use Rattle.tightening.specs.declared.tighten.Untightened.{Untightened}
use Rattle.tightening.specs.declared.tighten.Untightened.TheVariants.{Refused, Memory}
use Rattle.tightening.specs.Tightening.{Tightest, TightWipedOut}
use Rattle.tightening.specs.Probes.{probes_of}
use Rattle.tightening.specs.Underway.{Between}
use Rattle.tightening.proofs.Probing.{underway_start, tightest_full}
use Rattle.tightening.proofs.Turning.{full_of, beyond_then}

-- what a check that came out well tells, and one thing more
pub both_hold : (P Q : Type 0) (R : EngineFault → Type 0) (r : Result (Unit {0}) EngineFault) → MatchResult r (λ _. P) R → Q → IfOk r (λ _. P × Q)
both_hold P Q R (Ok x) h q = (h, q)
both_hold P Q R (Err why) h q = tt

-- what an answer tells of the refusal
pub answered : (o : Option EngineFault) (why : EngineFault) → Err why ≡ answer o → o ≡ Some why
answered None why h = absurd (no_err h)
  where
    refuses : Result (Unit {0}) EngineFault → Type 0
    refuses (Ok x) = ⊥
    refuses (Err w) = Unit {0}

    no_err : ◌≡◌ {A = Result (Unit {0}) EngineFault} (Err why) (Ok tt) → ⊥
    no_err e = subst refuses e tt
answered (Some w) why h = ap Some (sym (ap the h))
  where
    the : Result (Unit {0}) EngineFault → EngineFault
    the (Ok x) = why
    the (Err v) = v

pub passed : (o : Option EngineFault) → Ok tt ≡ answer o → o ≡ None
passed None h = refl
passed (Some w) h = absurd (no_ok h)
  where
    is_ok : Result (Unit {0}) EngineFault → Type 0
    is_ok (Ok x) = Unit {0}
    is_ok (Err v) = ⊥

    no_ok : ◌≡◌ {A = Result (Unit {0}) EngineFault} (Ok tt) (Err w) → ⊥
    no_ok e = subst is_ok e tt

-- at the start every option waits
pub between_start : (rules : List Rule) (first pairs : List ℕ) (w : Waiting) → Standing rules first pairs → ((x a : ℕ) → T (part first x a) → T (probes_of w x a)) → Between rules first (length first) first pairs w
between_start rules first pairs w s all = grind (arith, common_steps, underway_start)

-- an accepted set has only options
pub only_options : (rules : List Rule) (sets : List ℕ) → Accepted rules sets → (x a : ℕ) → T (part sets x a) → a < 32
only_options rules sets ok x a t = has_below 32 (get_or sets x 0) a (ok.fit x) t

-- a call that failed, and one that did not
pub at_err : {X E P : Type 0} (r : Result X E) → is_err r ≡ true → OnErr r P → P
at_err (Ok x) e h = absurd (true≢false (sym e))
at_err (Err why) e h = h

pub at_ok : {X E P : Type 0} (r : Result X E) → is_err r ≡ false → OnOk r P → P
at_ok (Ok x) e h = h
at_ok (Err why) e h = absurd (true≢false e)

-- the first words and those beyond
pub front_words : (k : ℕ) (first pairs : List OptionSet) → words (first ++ drop k pairs) ≡ words first ++ drop k (words pairs)
front_words k first pairs = grind (arith, common_steps, drop-map, map-append)

-- a copy that was tightened is the answer
pub done : (rules : List Rule) (sets : List ℕ) (n : ℕ) (pairs copy pairs' sets' : List ℕ) → n ≡ length sets → length copy ≡ n → StayBeyond n pairs pairs' → Filled copy → Tightest rules sets (part copy) (pairs_of n pairs') → sets' ≡ copy
    → Tightened rules sets pairs sets' pairs'
done rules sets n pairs copy pairs' sets' e long rest filled tightest is =
    let tight : Tightest rules sets (part sets') (pairs_of (length sets) pairs') =
    subst (λ k. Tightest rules sets (part sets') (pairs_of k pairs')) e (subst (λ l. Tightest rules sets (part l) (pairs_of n pairs')) (sym is) tightest) in
    let full : Filled sets' = subst Filled (sym is) filled in
    let same : length sets' ≡ length sets = ap length is ∙ long ∙ e in
    record {
      long = same;
      tightest = tight;
      filled = full;
      not_wiped_out = tightest_full rules sets (part sets') (pairs_of (length sets) pairs') tight (λ x l. full_of sets' full x (omega (arith, l, same)));
      rest = subst (λ k. StayBeyond k pairs pairs') e rest;
    }

-- one in which a field was emptied leaves no pair
pub undone : (rules : List Rule) (sets : List ℕ) (n : ℕ) (pairs mid pairs' : List ℕ) → n ≡ length sets → TightWipedOut rules sets → StayBeyond n pairs mid
    → length pairs' ≡ length mid → ((i : ℕ) → i < n * 512 → get_or pairs' i 0 ≡ 0) → drop (n * 512) pairs' ≡ drop (n * 512) mid → NotTightened rules sets pairs sets pairs'
undone rules sets n pairs mid pairs' e out rest long empty beyond =
    let after : StayBeyond n mid pairs' = record { beyond = beyond; long = long } in
    record {
      same = refl;
      wiped_out = out;
      none = λ i l. empty i (omega (arith, l, e));
      rest = subst (λ k. StayBeyond k pairs pairs') e (beyond_then n pairs mid pairs' rest after);
    }

-- a write into the first words
module _ (n : ℕ) (pairs words words' : List ℕ) (is : words' ≡ words ++ drop (n * 512) pairs) (long : length words ≡ n * 512) where
  pub beyond_front : n * 512 ≤ length pairs → StayBeyond n pairs words'
  beyond_front room = record {
    beyond = ap (drop (n * 512)) is ∙ drop-append-drop (n * 512) pairs words (n * 512) (omega arith) long;
    long = ap length is ∙ length-append words (drop (n * 512) pairs) ∙ omega (arith, length-drop (n * 512) pairs);
  }

  front : (i : ℕ) → i < n * 512 → get_or words' i 0 ≡ get_or words i 0
  front i l = ap (λ ws. get_or ws i 0) is ∙ get_or_append_left words (drop (n * 512) pairs) 0 i (omega arith)

  same_pairs : (x a y b : ℕ) → pairs_of n words' x a y b ≡ pairs_of n words x a y b
  same_pairs x a y b = grind (arith, common_steps, front, pairs_at, pairs_range, same_test, word_below)

  -- over the first words a copy that was tightened is the answer
  pub done_front : (rules : List Rule) (sets copy sets' : List ℕ) → n ≡ length sets → n * 512 ≤ length pairs → length copy ≡ length sets → Filled copy → Tightest rules sets (part copy) (pairs_of (length sets) words) → sets' ≡ copy
      → Tightened rules sets pairs sets' words'
  done_front rules sets copy sets' e room whole filled told same =
      let tightest = subst (λ k. Tightest rules sets (part copy) (pairs_of k words)) (sym e) told in
      let over : Tightest rules sets (part copy) (pairs_of n words') = record {
        all_options = tightest.all_options;
        only_options = tightest.only_options;
        all_pairs = λ x a y b h. tightest.all_pairs x a y b (subst T (same_pairs x a y b) h);
        only_pairs = λ x a y b h. subst T (sym (same_pairs x a y b)) (tightest.only_pairs x a y b h);
      } in
      done rules sets n pairs copy words' sets' e (whole ∙ sym e) (beyond_front room) filled over same

  -- and one in which a field was emptied leaves no pair
  pub undone_front : (rules : List Rule) (sets : List ℕ) → n ≡ length sets → n * 512 ≤ length pairs → TightWipedOut rules sets → ((i : ℕ) → get_or words i 0 ≡ 0) → NotTightened rules sets pairs sets words'
  undone_front rules sets e room out empty =
      undone rules sets n pairs words' words' e out (beyond_front room) refl (λ i l. front i l ∙ empty i) refl

  -- and one that failed leaves what it is to leave
  pub failed : (rules : List Rule) (sets copy start : List ℕ) (why : Untightened) → n ≡ length sets → n * 512 ≤ length pairs → tighten_refusal rules sets pairs ≡ None → start ≡ take (n * 512) pairs
      → TightensCopy rules sets start (Err why) copy words → Tightens rules sets pairs (Err why) sets words'
  failed rules sets copy start (Refused f) e room none s h = inr (none, (h.0, undone_front rules sets e room h.1.0 h.1.1))
  failed rules sets copy start (Memory m) e room none s h = (none, record { same_sets = refl; same_pairs = is ∙ ap (λ l. l ++ drop (n * 512) pairs) (h ∙ s) ∙ take-append-drop (n * 512) pairs })
