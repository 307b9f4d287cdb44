-- A list of calls made one by one.
use Rattle.std.proofs.Common.{◌≡◌, ℕ, true, false, List, [], ◌∷◌, ◌++◌, map, length, Err, vec_items, Decides, Vec, sym, refl, ap, ◌∙◌, subst, ⊎_elim, arith}
use Rattle.std.specs.declared.alloc.Global.{Global}
use Rattle.std.proofs.lemmas.List.{map-append, reverse-append}
use Rattle.std.proofs.lemmas.Bool.{cases_Bool}
use Rattle.faults.specs.declared.EngineFault.TheVariants.{NotOpened}
use Rattle.network.specs.Network.{Rule}
use Rattle.propagation.specs.Opening.{Accepted}
use Rattle.draft.specs.Draft.{Outcome, Event, Run, opened}
use Rattle.draft.specs.Replay.{MadeOf, Performed, Replays}
use Rattle.draft.specs.View.{Answers, Opens, view, is_open}
use Rattle.draft.specs.declared.draft.Draft.{Draft}
use Rattle.draft.specs.declared.types.Call.{Call}
use Rattle.draft.proofs.Laws.{lawful_run}

module _ {B W : Type 0} (rules : List Rule) (d : Draft B W) where
  pub performed_none : (answers : List Outcome) → length answers ≡ 0 → Performed rules d [] answers d
  performed_none [] h = record { same = refl; ran = λ yes. ([], (record { asked = refl; answered = refl }, refl)); shut = λ no. (refl, refl) }
  performed_none (a ∷ answers) h = absurd (omega (arith, h))

  pub performed_more : (now d' : Draft B W) (calls : List Call) (answers : List Outcome) (asked : Call) (answer : Outcome) → Performed rules d calls answers now → Answers rules now asked answer d' → Performed rules d (calls ++ asked ∷ []) (answers ++ answer ∷ []) d'
  performed_more now d' calls answers asked answer before step =
      record {
        same = step.same ∙ before.same;
        ran = λ yes.
            let r = before.ran yes in
            let event : Event = record { asked = asked; answered = answer } in
            let made : MadeOf (event ∷ r.0) (calls ++ asked ∷ []) (answers ++ answer ∷ []) =
            record { asked = ap (λ cs. asked ∷ cs) r.1.0.asked ∙ sym (reverse-append calls (asked ∷ [])); answered = ap (λ told. answer ∷ told) r.1.0.answered ∙ sym (reverse-append answers (answer ∷ [])) } in
            (event ∷ r.0, (made, (view now, (r.1.1, step.step (before.same ∙ yes)))));
        shut = λ no.
            let r = before.shut no in
            let s = step.shut (before.same ∙ no) in
            (ap (λ told. told ++ answer ∷ []) r.0 ∙ ap (λ a. map (λ _. Err NotOpened) calls ++ a ∷ []) s.0 ∙ sym (map-append (λ _. Err NotOpened) calls (asked ∷ [])), s.1 ∙ r.1);
      }

-- the calls made on a draft that was just opened
pub replays_from : {B W : Type 0} (rules : List Rule) (handed : B) (sets : List ℕ) (d d' : Draft B W) (calls : List Call) (answers : Vec Outcome Global) → Opens handed rules sets d → Performed rules d calls (vec_items answers) d' → Replays rules sets calls (record { draft = d'; answers = answers })
replays_from rules handed sets d d' calls answers new made =
    record {
      accepted = subst (λ yes. Decides yes (Accepted rules sets)) (sym made.same) new.accepted;
      lawful = λ ok.
          let yes = new.accepted.1 ok in
          let r = made.ran yes in
          let run : Run rules (opened sets) r.0 (view d') = subst (λ first. Run rules first r.0 (view d')) new.state r.1.1 in
          (r.0, (r.1.0, lawful_run rules sets ok r.0 (view d') run));
      shut = λ no.
          let shut : is_open d ≡ false = ⊎_elim (λ (yes : is_open d ≡ true). absurd (no (new.accepted.0 yes))) (λ h. h) (cases_Bool (is_open d)) in
          let r = made.shut shut in
          (r.0, r.1 ∙ new.state);
    }
