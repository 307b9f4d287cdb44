-- What is true of every open draft, and stays true after a call.
use Rattle.std.proofs.Common.{◌≡◌, ℕ, ◌+◌, ◌-◌, ◌^◌, ◌<◌, ◌≤◌, Bool, true, false, eqb, leb, List, [], ◌∷◌, ◌++◌, length, get_or, take, drop, set, is_ok, Ok, vec_items, vec_len, sym, refl, ap, ◌∙◌, subst, ⊎_elim, arith}
use Rattle.std.proofs.lemmas.Nat.{pow_pos}
use Rattle.std.proofs.lemmas.List.{length-append, length-take-le, get_or_read}
use Rattle.std.proofs.lemmas.Bool.{cases_Bool, and_from, both_ways, le-leb, eqb-true, eqb-false}
use Rattle.network.specs.Network.{Rule, has, part}
use Rattle.network.specs.declared.options.OptionSet.{OptionSet}
use Rattle.network.specs.Sets.{set_without}
use Rattle.network.proofs.Truth.{T_yes}
use Rattle.network.proofs.Bits.{has_le}
use Rattle.network.proofs.Masks.{without_is}
use Rattle.network.proofs.Words.{length_words, word_of}
use Rattle.propagation.specs.Strikes.{without, left_by, Struck}
use Rattle.propagation.specs.Opening.{Accepted}
use Rattle.propagation.specs.Progress.{Filled}
use Rattle.propagation.specs.Undo.{Fit, put_all}
use Rattle.propagation.specs.declared.record.Decision.{Decision}
use Rattle.propagation.specs.declared.record.Decision.TheVariants as decision
use Rattle.propagation.specs.declared.record.Strike.{Strike}
use Rattle.draft.specs.Draft.{State, Outcome, Step, opened, decision_limit, choose_strikes, latest_mark, no_decision, decide, settled, take_back}
use Rattle.draft.specs.Law.{KeepsTheLaw}
use Rattle.draft.specs.Sound.{Sound, stood, rising, record_limit}
use Rattle.draft.specs.View.{held, led_to, view, is_open, Answers, Found}
use Rattle.draft.specs.declared.draft.Draft.{Draft}
use Rattle.draft.specs.declared.draft.Opened.{Opened}
use Rattle.draft.specs.declared.types.Taken.{Taken}
use Rattle.draft.specs.declared.types.Call.{Call}
use Rattle.draft.proofs.Sets.{filled_set}
use Rattle.draft.proofs.Strikes.{struck_left}
use Rattle.draft.proofs.Choosing.{choose_struck}
use Rattle.draft.proofs.Laws.{step_keeps_the_law, same_keeps_the_law}
use Rattle.draft.proofs.Records.{struck_all_stood, length_left_by, fit_left_by, left_by_append, stood_append, record_bound, rising_push, rising_longer, rising_drop, put_back_cut, stood_front, filled_front}

-- whatever a draft answers, it keeps the law
pub answers_keep_the_law : {B W : Type 0} (rules : List Rule) (d : Draft B W) (c : Call) (answer : Outcome) (d' : Draft B W) → Answers rules d c answer d' → KeepsTheLaw rules (view d) (view d')
answers_keep_the_law rules d c answer d' a =
    ⊎_elim
    (λ (open' : is_open d ≡ true). step_keeps_the_law rules (view d) c answer (view d') (a.step open'))
    (λ (shut : is_open d ≡ false). same_keeps_the_law rules (view d) (view d') (a.shut shut).1)
    (cases_Bool (is_open d))

module _ {B W : Type 0} (rules : List Rule) (d d' : Draft B W) (c : Call) where
  -- a call that was made on what was opened
  pub answers : (o o' : Opened) → d.opened ≡ Ok o → d'.opened ≡ Ok o' → (answer : Outcome) → Step rules (held o) c answer (held o') → Answers rules d c answer d'
  answers o o' is is' answer step = record {
    same = ap is_ok is' ∙ sym (ap is_ok is);
    step = λ _. subst (λ s. Step rules s c answer (view d')) (sym (ap led_to is)) (subst (Step rules (held o) c answer) (sym (ap led_to is')) step);
    shut = λ no. absurd (both_ways (is_open d) no (ap is_ok is));
  }

-- the lists of an open draft are as long as they say
module _ (o : Opened) where
  pub opening_length : length (held o).opening ≡ vec_len o.opening
  opening_length = length_words (vec_items o.opening) ∙ sym o.opening.ok.0

  pub standing_long : vec_len o.standing ≡ vec_len o.opening
  standing_long =
      omega (arith, ap length o.sound.stands, length_left_by (held o).opening (vec_items o.strikes), opening_length, length_words (vec_items o.standing), o.standing.ok.0)

  -- a set that was read
  module _ (x : ℕ) (r : OptionSet) (is_field : x < vec_len o.opening) (is : r ≡ get_or (vec_items o.standing) x r) where
    pub word_read : r.word ≡ get_or (held o).standing x 0
    word_read = ap (λ s. s.word) is ∙ sym (word_of (vec_items o.standing) x r (omega (arith, standing_long, o.standing.ok.0)))

    pub part_read : (a : ℕ) (b : Bool) → b ≡ has r.word a → part (held o).standing x a ≡ b
    part_read a b e = ap (λ v. has v a) (sym word_read) ∙ sym e

  -- the latest decision
  module _ (some : 0 < vec_len o.taken) where
    pub last_read : (n : ℕ) (t : Taken) → n ≡ vec_len o.taken → t ≡ get_or (vec_items o.taken) (n - 1) t → t.mark ≡ latest_mark (held o)
    last_read n t e is =
        let same : n - 1 ≡ length (vec_items o.taken) - 1 = omega (arith, o.taken.ok.0) in
        ap (λ u. u.mark) (get_or_read (vec_items o.taken) (n - 1) t (omega (arith, o.taken.ok.0)) is no_decision ∙ ap (λ k. get_or (vec_items o.taken) k no_decision) same)

-- a new draft
pub fresh : (rules : List Rule) (sets : List ℕ) → Accepted rules sets → Sound (opened sets)
fresh rules sets ok = record {
  some = ok.some;
  few = ok.few;
  fit = ok.fit;
  filled = ok.filled;
  stands = refl;
  struck = refl;
  decided = omega arith;
  marks = refl;
}

module _ (s : State) (k : Sound s) where
  pub standing_length : length s.standing ≡ length s.opening
  standing_length = ap length k.stands ∙ length_left_by s.opening s.strikes

  pub standing_fit : Fit s.standing
  standing_fit = subst Fit (sym k.stands) (fit_left_by s.opening s.strikes k.fit)

  -- the set of an option that stands, without it
  module _ (x a : ℕ) (r : OptionSet) (f : Found s x a r) (others : ℕ) (less : others ≡ set_without r.word a) where
    pub others_are : others ≡ get_or s.standing x 0 - 2 ^ a
    others_are = less ∙ without_is r.word a (T_yes _ (ap (λ w. has w a) f.word ∙ f.stands)) ∙ ap (λ w. w - 2 ^ a) f.word

    holds : 2 ^ a ≤ get_or s.standing x 0
    holds = has_le (get_or s.standing x 0) a (T_yes _ f.stands)

    pub is_last : true ≡ eqb others 0 → get_or s.standing x 0 ≡ 2 ^ a
    is_last e = let none = eqb-true others 0 (sym e) in omega (arith, others_are, holds)

    pub is_not_last : false ≡ eqb others 0 → get_or s.standing x 0 ≡ 2 ^ a → ⊥
    is_not_last e l = let some = eqb-false others 0 (sym e) in some (omega (arith, others_are))

    pub filled_less : false ≡ eqb others 0 → Filled (without s.standing x a)
    filled_less e = let some = eqb-false others 0 (sym e) in filled_set s.standing x _ k.filled (omega (arith, others_are))

  module _ (found : List Strike) (stands : stood s.standing found ≡ true) where
    all_stood : stood s.opening (s.strikes ++ found) ≡ true
    all_stood =
        stood_append s.opening s.strikes found ∙
        and_from (stood s.opening s.strikes) (stood (left_by s.opening s.strikes) found) k.struck (subst (λ sets. stood sets found ≡ true) k.stands stands)

    all_left : (after : List ℕ) → after ≡ left_by s.standing found → after ≡ left_by s.opening (s.strikes ++ found)
    all_left after left = left ∙ ap (λ sets. left_by sets found) k.stands ∙ sym (left_by_append s.opening s.strikes found)

    -- the record has room for what is struck
    pub has_room : length s.strikes + length found ≤ record_limit
    has_room = omega (arith, record_bound s.opening (s.strikes ++ found) k.few k.fit all_stood, length-append s.strikes found)

    module _ (after : List ℕ) (left : after ≡ left_by s.standing found) (full : Filled after) where
      -- strikes are made, and no decision is taken
      pub sound_settled : Sound (settled s found after)
      sound_settled = record {
        some = k.some;
        few = k.few;
        fit = k.fit;
        filled = full;
        stands = all_left after left;
        struck = all_stood;
        decided = k.decided;
        marks = rising_longer s.taken (length s.strikes) (length (s.strikes ++ found)) (omega (arith, length-append s.strikes found)) k.marks;
      }

      -- a decision is taken
      pub sound_decided : (d : Decision) → (length s.taken ≡ decision_limit → ⊥) → Sound (decide s d found after)
      sound_decided d few =
          let t : Taken = record { decision = d; mark = length s.strikes } in
          let top = length (s.strikes ++ found) in
          record {
            some = k.some;
            few = k.few;
            fit = k.fit;
            filled = full;
            stands = all_left after left;
            struck = all_stood;
            decided = omega (arith, k.decided, few, length-append s.taken (t ∷ []));
            marks = rising_push s.taken t top ∙ and_from (rising s.taken t.mark) (leb t.mark top) k.marks (le-leb t.mark top (omega (arith, length-append s.strikes found)));
          }

  -- what a choose of an option that stands strikes
  module _ (x a : ℕ) (there : part s.standing x a ≡ true) where
    abbrev only_this : List Decision
    only_this = decision.Choose x a ∷ []

    struck_others : Struck [] only_this s.standing (choose_strikes (get_or s.standing x 0) x a) (set s.standing x (2 ^ a))
    struck_others = choose_struck [] only_this x a (0, (omega arith, λ _. refl)) s.standing (T_yes _ there) (standing_fit x)

    pub others_left : set s.standing x (2 ^ a) ≡ left_by s.standing (choose_strikes (get_or s.standing x 0) x a)
    others_left = struck_left [] only_this s.standing (choose_strikes (get_or s.standing x 0) x a) (set s.standing x (2 ^ a)) struck_others

    pub others_stood : stood s.standing (choose_strikes (get_or s.standing x 0) x a) ≡ true
    others_stood = struck_all_stood [] only_this s.standing (choose_strikes (get_or s.standing x 0) x a) (set s.standing x (2 ^ a)) struck_others

    pub filled_chosen : Filled (set s.standing x (2 ^ a))
    filled_chosen = filled_set s.standing x (2 ^ a) k.filled (pow_pos a)

    pub sound_chosen : (length s.taken ≡ decision_limit → ⊥) → Sound (decide s (decision.Choose x a) (choose_strikes (get_or s.standing x 0) x a) (set s.standing x (2 ^ a)))
    sound_chosen =
        sound_decided (choose_strikes (get_or s.standing x 0) x a) others_stood (set s.standing x (2 ^ a)) others_left filled_chosen (decision.Choose x a)

  -- the latest decision
  module _ (some : 0 < length s.taken) where
    abbrev mark : ℕ
    mark = latest_mark s

    marks_drop : (rising (take (length s.taken - 1) s.taken) mark ≡ true) × (mark ≤ length s.strikes)
    marks_drop = rising_drop s.taken (length s.strikes) no_decision some k.marks

    pub last_within : mark ≤ length s.strikes
    last_within = marks_drop.1

    pub standing_back : put_all s.standing (drop mark s.strikes) ≡ left_by s.opening (take mark s.strikes)
    standing_back = ap (λ v. put_all v (drop mark s.strikes)) k.stands ∙ put_back_cut s.opening s.strikes mark k.fit k.struck

    -- a decision is taken back
    pub sound_back : Sound (take_back s)
    sound_back = record {
      some = k.some;
      few = k.few;
      fit = k.fit;
      filled = filled_front s.opening s.strikes mark (subst Filled k.stands k.filled);
      stands = refl;
      struck = stood_front s.opening s.strikes mark k.fit k.struck;
      decided = omega (arith, k.decided, length-take-le (length s.taken - 1) s.taken (omega arith));
      marks = ap (rising (take (length s.taken - 1) s.taken)) (length-take-le mark s.strikes last_within) ∙ marks_drop.0;
    }
