-- What a list of calls does to a draft, and the law over it from the opening on.
use Rattle.std.specs.Prelude.{◌≡◌, ℕ, true, false, List, map, reverse, Err, vec_items, Decides}
use Rattle.faults.specs.declared.EngineFault.TheVariants.{NotOpened}
use Rattle.network.specs.Network.{Rule}
use Rattle.propagation.specs.Opening.{Accepted}
use Rattle.draft.specs.Draft.{Outcome, Event, Run, opened}
use Rattle.draft.specs.Law.{LawfulRun}
use Rattle.draft.specs.View.{view, is_open}
use Rattle.draft.specs.declared.draft.Draft.{Draft}
use Rattle.draft.specs.declared.draft.replays.Replayed.{Replayed}
use Rattle.draft.specs.declared.types.Call.{Call}

-- a run, the latest call first, is made of these calls with these answers
pub record MadeOf (h : List Event) (calls : List Call) (answers : List Outcome) : Type 0 where
  pub asked : map (λ e. e.asked) h ≡ reverse calls
  pub answered : map (λ e. e.answered) h ≡ reverse answers

-- the calls ran on an open draft with these answers; any other draft refused them all
pub record Performed {B W : Type 0} (rules : List Rule) (d : Draft B W) (calls : List Call) (answers : List Outcome) (d' : Draft B W) : Type 0 where
  pub same : is_open d' ≡ is_open d
  pub ran : is_open d ≡ true → (h : List Event) × (MadeOf h calls answers × Run rules (view d) h (view d'))
  pub shut : is_open d ≡ false → (answers ≡ map (λ _. Err NotOpened) calls) × (view d' ≡ view d)

-- from an accepted opening the calls ran to the draft as it is, and the law holds at each point; after any other each was refused
pub record Replays {B W : Type 0} (rules : List Rule) (sets : List ℕ) (calls : List Call) (r : Replayed B W) : Type 0 where
  pub accepted : Decides (is_open r.draft) (Accepted rules sets)
  pub lawful : Accepted rules sets → (h : List Event) × (MadeOf h calls (vec_items r.answers) × LawfulRun rules sets h (view r.draft))
  pub shut : (Accepted rules sets → ⊥) → (vec_items r.answers ≡ map (λ _. Err NotOpened) calls) × (view r.draft ≡ opened sets)
