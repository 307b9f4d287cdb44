-- A draft by what it stands for, what each call does to it, and the runs of calls.
use Rattle.std.specs.Prelude.{◌≡◌, ℕ, zero, suc, ◌-◌, ◌^◌, ◌<◌, Bool, true, cond, not, ◌&&◌, T, List, [], ◌∷◌, ◌++◌, map, length, take, Some, None, Ok, Err, Option, Result, ◌==◌, nat_lt, slice_index, slice_index_or, slice_set}
use Rattle.faults.specs.declared.EngineFault.{EngineFault}
use Rattle.faults.specs.declared.EngineFault.TheVariants.{NotOpened, OutOfRange, NotStanding, LastOption, TooManyDecisions, NoDecision, WipedOut}
use Rattle.network.specs.Network.{option_limit, has, Rule, Part, part, rule_at, Largest}
use Rattle.propagation.specs.Strikes.{permits, without, options, left_by, Struck}
use Rattle.propagation.specs.Opening.{Accepted, Emptied, Blamed}
use Rattle.propagation.specs.declared.record.Decision.{Decision}
use Rattle.propagation.specs.declared.record.Decision.TheVariants as decision
use Rattle.propagation.specs.declared.record.Cause.TheVariants.{Decided}
use Rattle.propagation.specs.declared.record.Strike.{Strike}
use Rattle.draft.specs.declared.types.Taken.{Taken}
use Rattle.draft.specs.declared.types.Call.{Call}
use Rattle.draft.specs.declared.types.Call.TheVariants as call
use Rattle.draft.specs.declared.types.Answer.{Answer}
use Rattle.draft.specs.declared.types.Answer.TheVariants.{Done, Settled, Shown}

-- how many decisions can be in force
abbrev pub decision_limit : ℕ
decision_limit = 64

-- whether every decision lets option a of field x stand
abbrev pub permitted : List Decision → ℕ → ℕ → Bool
permitted [] x a = true
permitted (d ∷ ds) x a = permits d x a && permitted ds x a

-- the opening sets under the decisions: less every excluded option and, in a field with a choose, every option but the chosen one
abbrev pub under : List ℕ → List Decision → Part
under opening decisions x a = part opening x a && permitted decisions x a

-- a draft by what it opened with, the decisions in force with their marks, the strike record and what stands
pub record State : Type 0 where
  pub opening : List ℕ
  pub taken : List Taken
  pub strikes : List Strike
  pub standing : List ℕ

-- the decisions in force
abbrev pub decisions : List Taken → List Decision
decisions = map (λ t. t.decision)

-- the opening sets of a draft under its decisions in force
abbrev pub allowed_by : State → Part
allowed_by s = under s.opening (decisions s.taken)

-- a draft as it is opened: everything stands and nothing is decided
abbrev pub opened : List ℕ → State
opened sets = record { opening = sets; taken = []; strikes = []; standing = sets }

-- the numbers name a field and an option
abbrev pub in_range : State → ℕ → ℕ → Bool
in_range s x a = nat_lt x (length s.opening) && nat_lt a option_limit

-- the first refusal that fits a call, but for what a settle finds out
abbrev pub refusal : State → Call → Option EngineFault
refusal s (call.Choose x a) =
    cond (not (in_range s x a)) (Some OutOfRange)
    (cond (not (part s.standing x a)) (Some NotStanding)
    (cond (length s.taken == decision_limit) (Some TooManyDecisions) None))
refusal s (call.Exclude x a) =
    cond (not (in_range s x a)) (Some OutOfRange)
    (cond (not (part s.standing x a)) (Some NotStanding)
    (cond (slice_index s.standing x == 2 ^ a) (Some LastOption)
    (cond (length s.taken == decision_limit) (Some TooManyDecisions) None)))
refusal s call.Settle = None
refusal s call.TakeBack = cond (length s.taken == 0) (Some NoDecision) None
refusal s (call.Show x) = cond (not (nat_lt x (length s.opening))) (Some OutOfRange) None

-- the strikes that a choose of option a makes in field x among the options below b, by rising option; the set w holds what stood
unfoldable pub strikes_below : ℕ → ℕ → ℕ → ℕ → List Strike
strikes_below zero w x a = []
strikes_below (suc b) w x a =
    strikes_below b w x a ++ cond (has w b && not (b == a)) (record { field = x; option = b; cause = Decided (decision.Choose x a) } ∷ []) []

abbrev pub choose_strikes : ℕ → ℕ → ℕ → List Strike
choose_strikes w x a = strikes_below option_limit w x a

abbrev pub exclude_strike : ℕ → ℕ → Strike
exclude_strike x a = record { field = x; option = a; cause = Decided (decision.Exclude x a) }

-- a decision is taken: it is in force, its strikes are on record, and its mark is the length of the record before them
abbrev pub decide : State → Decision → List Strike → List ℕ → State
decide s d found after = record {
  opening = s.opening;
  taken = s.taken ++ (record { decision = d; mark = length s.strikes } ∷ []);
  strikes = s.strikes ++ found;
  standing = after;
}

-- what stands for the latest decision where there is none
abbrev pub no_decision : Taken
no_decision = record { decision = decision.Exclude 0 0; mark = 0 }

-- the length of the record before the latest decision
abbrev pub latest_mark : State → ℕ
latest_mark s = (slice_index_or s.taken (length s.taken - 1) no_decision).mark

-- the latest decision dropped, and every option struck by it or after it put back
abbrev pub take_back : State → State
take_back s =
    let kept = take (latest_mark s) s.strikes in
    record {
      opening = s.opening;
      taken = take (length s.taken - 1) s.taken;
      strikes = kept;
      standing = left_by s.opening kept;
    }

-- a settle's strikes are on record
abbrev pub settled : State → List Strike → List ℕ → State
settled s found after = record { opening = s.opening; taken = s.taken; strikes = s.strikes ++ found; standing = after }

-- how a call comes out: an answer, or why it was refused
abbrev pub Outcome : Type 0
Outcome = Result Answer EngineFault

-- a settle that is done, one that is wiped out, and one over rules that the opening does not fit
pub data Settles (rules : List Rule) (s : State) (answer : Outcome) (s' : State) : Type 0 where
  done : (found : List Strike) (after : List ℕ) →
      Accepted rules s.opening →
      Struck rules (decisions s.taken) s.standing found after →
      Largest rules (part s.standing) (part after) →
      ((x : ℕ) → x < length after → 0 < slice_index after x) →
      answer ≡ Ok (Settled (length found) (options after)) →
      s' ≡ settled s found after →
      Settles rules s answer s'
  wiped : (x r : ℕ) →
      Accepted rules s.opening →
      x < length s.opening →
      Emptied rules (part s.standing) x →
      Blamed rules (part s.standing) x r →
      answer ≡ Err (WipedOut x r) →
      s' ≡ s →
      Settles rules s answer s'
  unfit :
      (Accepted rules s.opening → ⊥) →
      answer ≡ Err NotOpened →
      s' ≡ s →
      Settles rules s answer s'

-- what a call that nothing refuses does
abbrev pub Does : List Rule → State → Call → Outcome → State → Type 0
Does rules s (call.Choose x a) answer s' =
    (answer ≡ Ok Done) × (s' ≡ decide s (decision.Choose x a) (choose_strikes (slice_index s.standing x) x a) (slice_set s.standing x (2 ^ a)))
Does rules s (call.Exclude x a) answer s' =
    (answer ≡ Ok Done) × (s' ≡ decide s (decision.Exclude x a) (exclude_strike x a ∷ []) (without s.standing x a))
Does rules s call.Settle answer s' = Settles rules s answer s'
Does rules s call.TakeBack answer s' = (answer ≡ Ok Done) × (s' ≡ take_back s)
Does rules s (call.Show x) answer s' = (answer ≡ Ok (Shown (record { word = slice_index s.standing x }))) × (s' ≡ s)

-- one call: the first refusal that fits changes nothing, else the call is done
abbrev pub Step : List Rule → State → Call → Outcome → State → Type 0
Step rules s c answer s' =
    elim (refusal s c) [ Some why ↦ (answer ≡ Err why) × (s' ≡ s) | None ↦ Does rules s c answer s' ]

-- a call with how it came out
pub record Event : Type 0 where
  pub asked : Call
  pub answered : Outcome

-- a list of calls with their answers, the latest first, leads from one state to another
abbrev pub Run : List Rule → State → List Event → State → Type 0
Run rules first [] last = last ≡ first
Run rules first (e ∷ before) last =
    (s : State) × (Run rules first before s × Step rules s e.asked e.answered last)

-- a configuration takes one option for each field; it is admissible when every rule allows it
abbrev pub Admissible : List Rule → (ℕ → ℕ) → Type 0
Admissible rules c = (r : ℕ) → r < length rules → T ((rule_at rules r).allows (c (rule_at rules r).left) (c (rule_at rules r).right))

-- it honours the decisions in force when it lies in the opening sets under them
abbrev pub Honours : State → (ℕ → ℕ) → Type 0
Honours s c = (x : ℕ) → x < length s.opening → T (allowed_by s x (c x))
