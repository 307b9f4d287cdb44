-- A call's answer, refused or done.
use Rattle.std.proofs.Common.{Result, MatchResult, sym, subst, ◌≡◌, ℕ, ◌^◌, ◌<◌, ◌≤◌, true, false, List, [], ◌∷◌, length, get_or, set, Some, None, Ok, Err, refl, ap, arith}
use Rattle.std.proofs.lemmas.Bool.{lt-ltb, le-ltb, eq-eqb, ne_eqb}
use Rattle.faults.specs.declared.EngineFault.{EngineFault}
use Rattle.faults.specs.declared.EngineFault.TheVariants.{OutOfRange, NotStanding, LastOption}
use Rattle.network.specs.Network.{option_limit, Rule, part}
use Rattle.propagation.specs.Strikes.{without}
use Rattle.propagation.specs.declared.record.Decision.TheVariants as decision
use Rattle.draft.specs.Draft.{State, Outcome, Step, Does, refusal, in_range, decide, decision_limit, choose_strikes, exclude_strike, take_back}
use Rattle.network.specs.declared.options.OptionSet.{OptionSet}
use Rattle.draft.specs.View.{StandsIn, NoField, shown}
use Rattle.draft.specs.declared.types.Call.{Call}
use Rattle.draft.specs.declared.types.Call.TheVariants as call
use Rattle.draft.specs.declared.types.Answer.TheVariants.{Shown, Done}

pub refused : (rules : List Rule) (s : State) (c : Call) (why : EngineFault) → refusal s c ≡ Some why → Step rules s c (Err why) s
refused rules s c why e = rw (e, Step) (refl, refl)

pub acts : (rules : List Rule) (s : State) (c : Call) (answer : Outcome) (s' : State) → refusal s c ≡ None → Does rules s c answer s' → Step rules s c answer s'
acts rules s c answer s' e h = rw (e, Step) h

pub same_state : (s s' : State) → s.opening ≡ s'.opening → s.taken ≡ s'.taken → s.strikes ≡ s'.strikes → s.standing ≡ s'.standing → s ≡ s'
same_state s s' o t k z = λ i. record { opening = o i; taken = t i; strikes = k i; standing = z i }

pub shows_out : (rules : List Rule) (s : State) (x : ℕ) → length s.opening ≤ x → Step rules s (call.Show x) (Err OutOfRange) s
shows_out rules s x h = refused rules s (call.Show x) OutOfRange (rw (le-ltb x (length s.opening) h) refl)

pub shows : (rules : List Rule) (s : State) (x : ℕ) (r : Result OptionSet EngineFault) → MatchResult r (StandsIn s x) (NoField s x) → Step rules s (call.Show x) (shown r) s
shows rules s x (Ok set) h =
    acts rules s (call.Show x) (Ok (Shown set)) s (rw (lt-ltb x (length s.opening) h.field) refl) (ap (λ v. Ok (Shown (record { word = v }))) h.word, refl)
shows rules s x (Err why) h =
    subst (λ f. Step rules s (call.Show x) (Err f) s) (sym h.refused) (shows_out rules s x h.past)

-- why a decision is refused, whichever it is
module _ (s : State) (x a : ℕ) where
  pub choose_out : in_range s x a ≡ false → refusal s (call.Choose x a) ≡ Some OutOfRange
  choose_out out = rw out refl

  pub exclude_out : in_range s x a ≡ false → refusal s (call.Exclude x a) ≡ Some OutOfRange
  exclude_out out = rw out refl

  pub choose_absent : x < length s.opening → a < option_limit → part s.standing x a ≡ false → refusal s (call.Choose x a) ≡ Some NotStanding
  choose_absent is_field is-option h = rw (lt-ltb x (length s.opening) is_field, lt-ltb a option_limit is-option, h) refl

  pub exclude_absent : x < length s.opening → a < option_limit → part s.standing x a ≡ false → refusal s (call.Exclude x a) ≡ Some NotStanding
  exclude_absent is_field is-option h = rw (lt-ltb x (length s.opening) is_field, lt-ltb a option_limit is-option, h) refl

-- a decision on an option in range
module _ (rules : List Rule) (s : State) (x a : ℕ) (is_field : x < length s.opening) (is-option : a < option_limit) where
  module _ (stands : part s.standing x a ≡ true) where
    pub excludes_last : get_or s.standing x 0 ≡ 2 ^ a → Step rules s (call.Exclude x a) (Err LastOption) s
    excludes_last h =
        refused rules s (call.Exclude x a) LastOption (rw (lt-ltb x (length s.opening) is_field, lt-ltb a option_limit is-option, stands, eq-eqb (get_or s.standing x 0) (2 ^ a) h) refl)

    pub chooses : (length s.taken ≡ decision_limit → ⊥) → (s' : State) → s' ≡ decide s (decision.Choose x a) (choose_strikes (get_or s.standing x 0) x a) (set s.standing x (2 ^ a)) → Step rules s (call.Choose x a) (Ok Done) s'
    chooses h s' e =
        acts rules s (call.Choose x a) (Ok Done) s' (rw (lt-ltb x (length s.opening) is_field, lt-ltb a option_limit is-option, stands, ne_eqb (length s.taken) decision_limit h) refl) (refl, e)

    module _ (others : get_or s.standing x 0 ≡ 2 ^ a → ⊥) where
      pub excludes : (length s.taken ≡ decision_limit → ⊥) → (s' : State) → s' ≡ decide s (decision.Exclude x a) (exclude_strike x a ∷ []) (without s.standing x a) → Step rules s (call.Exclude x a) (Ok Done) s'
      excludes h s' e =
          acts rules s (call.Exclude x a) (Ok Done) s'
          (rw (lt-ltb x (length s.opening) is_field, lt-ltb a option_limit is-option, stands, ne_eqb (get_or s.standing x 0) (2 ^ a) others, ne_eqb (length s.taken) decision_limit h) refl) (refl, e)

pub takes_back : (rules : List Rule) (s : State) → 0 < length s.taken → (s' : State) → s' ≡ take_back s → Step rules s call.TakeBack (Ok Done) s'
takes_back rules s h s' e = acts rules s call.TakeBack (Ok Done) s' (rw (ne_eqb (length s.taken) 0 (λ z. omega arith)) refl) (refl, e)
