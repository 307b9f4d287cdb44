use Rattle.std.proofs.Common.{◌≡◌, ℕ, ◌-◌, List, [], length, vec_items, vec_len, Ok, Err, Result, Vec, sym, refl, ap, ◌∙◌, subst, arith}
use Rattle.std.specs.Vec.{with_items}
use Rattle.std.specs.declared.alloc.Global.{Global}
use Rattle.std.proofs.lemmas.Bool.{true≢false}
use Rattle.std.proofs.lemmas.List.{with_items_is}
use Rattle.std.specs.Result.{IsErr, IsErrAnd}
use Rattle.faults.specs.declared.EngineFault.{EngineFault}
use Rattle.faults.specs.declared.EngineFault.TheVariants.{WipedOut}
use Rattle.network.specs.Network.{Rule, words}
use Rattle.network.specs.declared.options.OptionSet.{OptionSet}
use Rattle.propagation.specs.Opening.{Accepted}
use Rattle.propagation.specs.Progress.{Progress, Filled, SettledOn, WipedFrom}
use Rattle.propagation.specs.Strikes.{options}
use Rattle.propagation.specs.declared.record.Strike.{Strike}
use Rattle.draft.specs.Draft.{Settles, decisions, settled}
use Rattle.draft.specs.Sound.{Sound, state_of}
use Rattle.draft.specs.View.{held, settled as outcome}
use Rattle.draft.specs.declared.draft.Opened.{Opened}
use Rattle.draft.specs.declared.types.Answer.TheVariants.{Settled}
use Rattle.draft.proofs.Drafts.{standing_length, standing_long, standing_fit, opening_length}
use Rattle.draft.proofs.Records.{options_bound}
use Rattle.draft.proofs.Steps.{same_state}
use Rattle.draft.proofs.Strikes.{struck_options}
use Rattle.draft.proofs.Settles.{room_for_all, fits_opening, fits_standing, sound_after}
use Rattle.draft.proofs.draft.Opened.settle.Goals as goal

-- how a refused settle comes out
told : (r : Result (ℕ × ℕ) EngineFault) (why : EngineFault) → IsErr r × IsErrAnd r (λ fault. fault ≡ why) → outcome r ≡ Err why
told (Ok counts) why h = absurd (true≢false (sym h.0))
told (Err fault) why h = ap (λ f. Err f) h.1

-- what is held once the sets are settled
module _ (o : Opened) (rules : List Rule) (behind sets : List OptionSet) (strikes : Vec Strike Global) (is : behind ≡ vec_items o.standing) (long : length sets ≡ vec_len o.standing)
    (made : Progress rules (words behind) o.strikes (words sets) strikes) where
  progress : Progress rules (held o).standing o.strikes (words sets) strikes
  progress = subst (λ l. Progress rules (words l) o.strikes (words sets) strikes) is made

  after : words (with_items o.standing sets).items ≡ words sets
  after = ap words (with_items_is o.standing sets long)

  now : state_of (vec_items o.opening) (vec_items o.taken) (vec_items strikes) (with_items o.standing sets).items ≡ settled (held o) progress.found (words sets)
  now = same_state _ _ refl refl progress.items after

  still_sound : Filled (words sets) → Sound (state_of (vec_items o.opening) (vec_items o.taken) (vec_items strikes) (with_items o.standing sets).items)
  still_sound full = subst Sound (sym now) (sound_after (held o) o.sound rules progress.found (words sets) (progress.struck []) full)

pub returns-in_default : goal.returns-in_default
returns-in_default g c =
    let o = c.args.self.now in
    let rules = g.B.Book.meaning c.args.book.now in
    let unfit : Accepted rules (held o).opening → ⊥ =
    λ a. c.in_default.ensures.accepted (subst (λ l. Accepted rules (words l)) (sym c.as_slice.ensures.value) (fits_standing (held o) o.sound rules a)) in
    record { meaning = refl; waiting = c.clear.ensures.waiting; step = Settles.unfit unfit refl refl }

pub settle_sets-requires : goal.settle_sets-requires
settle_sets-requires g c =
    let o = c.args.self.now in
    let rules = g.B.Book.meaning c.args.book.now in
    record {
      accepted = subst (λ l. Accepted rules (words l)) (c.as_slice.ensures.value ∙ sym c.as_mut_slice.ensures.value) c.in-Ok.ensures.accepted;
      room = omega (arith, o.room, o.strikes.ok.0, room_for_all (held o) o.sound, ap (λ l. options (words l)) c.as_mut_slice.ensures.value);
    }

pub invariant_of-self-2 : goal.invariant_of-self-2
invariant_of-self-2 g c =
    let o = c.args.self.now in
    let rules = g.B.Book.meaning c.args.book.now in
    let made = c.settle_sets.ensures.progress in
    record {
      sound = still_sound o rules _ _ _ c.as_mut_slice.ensures.value (c.settle_sets.auto.sets ∙ c.as_mut_slice.ensures.len) made c.settle_sets.ensures.filled;
      room = omega (arith, o.room, made.cap);
      places = o.places;
    }

pub returns-in_err-settle_sets : goal.returns-in_err-settle_sets
returns-in_err-settle_sets g c =
    let o = c.args.self.now in
    let rules = g.B.Book.meaning c.args.book.now in
    let sets = c.settle_sets.new.sets in
    let w = c.in_err-settle_sets.field-0.0 in
    let why = c.in_err-settle_sets.ensures.answer in
    let opening_fits : Accepted rules (held o).opening =
    fits_opening (held o) o.sound rules (subst (λ l. Accepted rules (words l)) c.as_slice.ensures.value c.in-Ok.ensures.accepted) in
    let out : WipedFrom rules (held o).standing w = subst (λ l. WipedFrom rules (words l) w) c.as_mut_slice.ensures.value why.1 in
    let same = ap words (with_items_is o.standing sets (c.settle_sets.auto.sets ∙ c.as_mut_slice.ensures.len)) ∙ why.0.standing ∙ ap words c.as_mut_slice.ensures.value in
    record {
      meaning = c.settle_sets.ensures.meaning;
      waiting = c.settle_sets.ensures.waiting;
      step = Settles.wiped w.field w.rule opening_fits (omega (arith, out.field, standing_length (held o) o.sound)) out.emptied out.blamed (told c.from_residual.result (WipedOut w.field w.rule) c.from_residual.ensures)
          (same_state _ (held o) refl refl why.0.items same);
    }

pub overflow_cast-result : goal.overflow_cast-result
overflow_cast-result g c =
    let o = c.args.self.now in
    let rules = g.B.Book.meaning c.args.book.now in
    let sets = c.settle_sets.new.sets in
    let made = progress o rules _ sets _ c.as_mut_slice.ensures.value (c.settle_sets.auto.sets ∙ c.as_mut_slice.ensures.len) c.settle_sets.ensures.progress in
    let balance = struck_options rules [] (held o).standing made.found (words sets) (made.struck []) in
    omega (arith, balance, options_bound (held o).standing (standing_fit (held o) o.sound), standing_length (held o) o.sound, o.sound.few, made.len, c.len.ensures, c.len-before.ensures)

pub count_options-requires : goal.count_options-requires
count_options-requires g c = let o = c.args.self.now in omega (arith, ap length c.as_slice-2.ensures.value, c.as_slice-2.ensures.len, standing_long o, opening_length o, o.sound.few)

pub returns : goal.returns
returns g c =
    let o = c.args.self.now in
    let rules = g.B.Book.meaning c.args.book.now in
    let sets = c.settle_sets.new.sets in
    let long = c.settle_sets.auto.sets ∙ c.as_mut_slice.ensures.len in
    let behind = c.as_mut_slice.ensures.value in
    let made = progress o rules _ sets _ behind long c.settle_sets.ensures.progress in
    let on : SettledOn rules (held o).standing (words sets) = subst (λ l. SettledOn rules (words l) (words sets)) behind c.in_ok-settle_sets.ensures.answer in
    let opening_fits : Accepted rules (held o).opening =
    fits_opening (held o) o.sound rules (subst (λ l. Accepted rules (words l)) c.as_slice.ensures.value c.in-Ok.ensures.accepted) in
    let struck : c.len.result - c.len-before.result ≡ length made.found = omega (arith, made.len, c.len.ensures, c.len-before.ensures) in
    let standing : c.count_options.result ≡ options (words sets) =
    c.count_options.ensures ∙ ap (λ l. options (words l)) c.as_slice-2.ensures.value ∙ ap options (after o rules _ sets _ behind long c.settle_sets.ensures.progress) in
    record {
      meaning = c.settle_sets.ensures.meaning;
      waiting = c.settle_sets.ensures.waiting;
      step = Settles.done made.found (words sets) opening_fits (made.struck (decisions (vec_items o.taken))) on.largest on.filled (λ i. Ok (Settled (struck i) (standing i)))
          (now o rules _ sets _ behind long c.settle_sets.ensures.progress);
    }
