-- What holds of every draft, over any book's rules, at its opening and after any list of calls.
use Rattle.std.specs.Prelude.{◌≡◌, ℕ, ◌+◌, ◌<◌, T, ◌⊎◌, List, [], ◌∷◌, length, take, Ok, Err, ◌≢◌, slice_index_or}
use Rattle.faults.specs.declared.EngineFault.TheVariants.{WipedOut}
use Rattle.network.specs.Network.{Rule, Part, part, Within, Largest, NoStricter}
use Rattle.network.specs.declared.rules.Side.{Side}
use Rattle.propagation.specs.Strikes.{InForce, UnsupportedAt, options, left_by, Holds}
use Rattle.propagation.specs.Opening.{Accepted, Emptied, IsWipedOut}
use Rattle.propagation.specs.declared.record.Decision.{Decision}
use Rattle.propagation.specs.declared.record.Strike.{Strike}
use Rattle.draft.specs.Draft.{State, Outcome, Event, Run, Step, opened, decisions, allowed_by, Admissible, Honours}
use Rattle.draft.specs.declared.types.Call.TheVariants as call
use Rattle.draft.specs.declared.types.Answer.TheVariants.{Settled}

-- the record and what stands account for every option of the opening
pub record Balanced (rules : List Rule) (s : State) : Type 0 where
  -- options standing and entries on the record add up to the options at opening
  pub sum : options s.standing + length s.strikes ≡ options s.opening
  -- no option is on record twice, or while it stands
  pub once : (i j : ℕ) (d : Strike) → i < j → j < length s.strikes → (slice_index_or s.strikes i d).field ≡ (slice_index_or s.strikes j d).field → (slice_index_or s.strikes i d).option ≢ (slice_index_or s.strikes j d).option
  pub gone : (i : ℕ) (d : Strike) → i < length s.strikes → T (part s.standing (slice_index_or s.strikes i d).field (slice_index_or s.strikes i d).option) → ⊥
  -- each entry's cause held against the opening options less all earlier entries
  pub caused : (i : ℕ) (d : Strike) → i < length s.strikes → Holds rules (decisions s.taken) (left_by s.opening (take i s.strikes)) (slice_index_or s.strikes i d).field (slice_index_or s.strikes i d).option (slice_index_or s.strikes i d).cause
  -- an admissible configuration that honours the decisions in force has all its options standing
  pub kept : (c : ℕ → ℕ) → Admissible rules c → Honours s c → (x : ℕ) → x < length s.opening → T (part s.standing x (c x))

-- an outcome that tells the two numbers of a done settle, and one that tells that it was wiped out
abbrev pub Counts : Outcome → Type 0
Counts answer = (k : ℕ) × ((m : ℕ) × (answer ≡ Ok (Settled k m)))

abbrev pub TellsWipedOut : Outcome → Type 0
TellsWipedOut answer = (x : ℕ) × ((r : ℕ) × (answer ≡ Err (WipedOut x r)))

-- rule r is one of field x under which an option that stands there has no partner in the largest part
abbrev pub ToBlame : List Rule → State → ℕ → ℕ → Type 0
ToBlame rules s x r =
    (side : Side) × ((a : ℕ) × ((r < length rules) × (T (part s.standing x a) × ((q : Part) → Largest rules (allowed_by s) q → UnsupportedAt rules q side r x a))))

-- a settle from s is exact against the opening sets under the decisions in force
pub record SettlesExactly (rules : List Rule) (s : State) : Type 0 where
  -- it is done, or refused as wiped out
  pub answers : (answer : Outcome) (s' : State) → Step rules s call.Settle answer s' → Counts answer ⊎ TellsWipedOut answer
  -- done, it leaves the largest arc-consistent part
  pub largest : (k m : ℕ) (s' : State) → Step rules s call.Settle (Ok (Settled k m)) s' → Largest rules (allowed_by s) (part s'.standing)
  -- its two numbers are true: k options were struck, and m now stand
  pub struck : (k m : ℕ) (s' : State) → Step rules s call.Settle (Ok (Settled k m)) s' → options s.standing ≡ options s'.standing + k
  pub standing : (k m : ℕ) (s' : State) → Step rules s call.Settle (Ok (Settled k m)) s' → options s'.standing ≡ m
  -- it is wiped out exactly when that part has an empty field; the field that it names is one, and the rule is to blame
  pub done_only : (k m : ℕ) (s' : State) → Step rules s call.Settle (Ok (Settled k m)) s' → IsWipedOut rules (length s.opening) (allowed_by s) → ⊥
  pub named_field : (x r : ℕ) (s' : State) → Step rules s call.Settle (Err (WipedOut x r)) s' → (x < length s.opening) × Emptied rules (allowed_by s) x
  pub named_rule : (x r : ℕ) (s' : State) → Step rules s call.Settle (Err (WipedOut x r)) s' → ToBlame rules s x r

-- the second draft is at least as loose as the first
pub record AtLeastAsLoose (rules rules' : List Rule) (s s' : State) : Type 0 where
  -- it opened with every option of the first
  pub opened_with : Within (part s.opening) (part s'.opening)
  -- over a book no stricter
  pub no_stricter : NoStricter rules' rules
  -- and each decision in force on it is in force on the first
  pub decided : (d : Decision) → InForce (decisions s'.taken) d → InForce (decisions s.taken) d

-- the second draft shows no less than the first
pub record ShowsNoLess (rules rules' : List Rule) (s s' : State) : Type 0 where
  -- right after a done settle of each it shows every option that the first shows
  pub shown : (k m k' m' : ℕ) (t t' : State) → Step rules s call.Settle (Ok (Settled k m)) t → Step rules' s' call.Settle (Ok (Settled k' m')) t' → Within (part t.standing) (part t'.standing)
  -- settle on it is wiped out only if settle on the first is
  pub wiped_out : (x r : ℕ) (answer : Outcome) (t t' : State) → Step rules' s' call.Settle (Err (WipedOut x r)) t' → Step rules s call.Settle answer t → TellsWipedOut answer

-- a draft that some history led to, from an accepted opening
abbrev pub Reached : List Rule → State → Type 0
Reached rules s = (opening : List ℕ) × (Accepted rules opening × ((h : List Event) × Run rules (opened opening) h s))

-- the law, of one draft
pub record Lawful (rules : List Rule) (opening : List ℕ) (s : State) : Type 0 where
  pub opening_stays : s.opening ≡ opening
  pub balanced : Balanced rules s
  pub exact : SettlesExactly rules s
  -- against every other draft that any history over any book reached, the looser one and the tighter one
  pub looser : (rules' : List Rule) (s' : State) → Reached rules' s' → AtLeastAsLoose rules rules' s s' → ShowsNoLess rules rules' s s'
  pub tighter : (rules' : List Rule) (s' : State) → Reached rules' s' → AtLeastAsLoose rules' rules s' s → ShowsNoLess rules' rules s' s

-- a fact holds at each point of a run: at its start and after each call
abbrev pub AtEachPoint : (State → Type 0) → (rules : List Rule) (first : State) (h : List Event) (last : State) → Run rules first h last → Type 0
AtEachPoint fact rules first [] last run = fact last
AtEachPoint fact rules first (e ∷ before) last run = fact last × AtEachPoint fact rules first before run.0 run.1.0

-- the law: from any accepted opening it holds at the opening and after each call, done or refused
abbrev pub Law : Type 0
Law =
    (rules : List Rule) (opening : List ℕ) → Accepted rules opening → (h : List Event) (last : State) (run : Run rules (opened opening) h last) →
    AtEachPoint (Lawful rules opening) rules (opened opening) h last run

-- the law on one call: whatever history led to the draft as it was, the law holds of it and, with this call added, of what it then is
abbrev pub KeepsTheLaw : List Rule → State → State → Type 0
KeepsTheLaw rules s s' =
    (opening : List ℕ) → Accepted rules opening → (h : List Event) → Run rules (opened opening) h s → Lawful rules opening s × Lawful rules opening s'

-- the law on a whole list of calls: they ran from the opening to the last state, and the law holds at each point
abbrev pub LawfulRun : List Rule → List ℕ → List Event → State → Type 0
LawfulRun rules opening h last =
    (run : Run rules (opened opening) h last) × AtEachPoint (Lawful rules opening) rules (opened opening) h last run
