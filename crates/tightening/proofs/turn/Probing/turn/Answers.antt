use Rattle.std.proofs.Common.{◌≡◌, ℕ, ◌-◌, ◌^◌, ◌<◌, true, T, List, length, get_or, set, replicate, Ok, sym, ap, ◌∙◌, subst, arith, rules}
use Rattle.std.proofs.lemmas.List.{get_or-set_same}
use Rattle.std.proofs.lemmas.Bool.{eqb-false}
use Rattle.network.specs.Network.{has, part, words}
use Rattle.network.specs.Sets.{set_without}
use Rattle.network.specs.declared.options.OptionSet.{OptionSet}
use Rattle.network.proofs.Truth.{T_yes, T_no}
use Rattle.agenda.specs.declared.job.Probe.{Probe}
use Rattle.propagation.specs.Progress.{Filled}
use Rattle.network.proofs.Masks.{without_is}
use Rattle.network.proofs.Words.{length_words, word_of, words_set}
use Rattle.books.specs.Pairs.{pairs_of, pair_rules}
use Rattle.propagation.specs.Strikes.{without}
use Rattle.tightening.specs.Outcomes.{Tried}
use Rattle.propagation.proofs.Strikes.{is_field}
use Rattle.tightening.proofs.Sets.{all_empty}
use Rattle.tightening.proofs.Turning.{fits_are, chosen, between_skip, between_kept, between_lost_less, between_struck, filled_without}
use Rattle.tightening.proofs.turn.Probing.turn.Goals.{then-x-self-via-then-x-self, then-x-self-via-else-x-self+then-not-contains}
use Rattle.tightening.proofs.turn.Probing.turn.Goals as goal

pub returns-then-x-self-clause-between : goal.returns-then-x-self-clause-between
returns-then-x-self-clause-between g c =
    let sets = c.args.self.now.sets.now in
    let probe = c.args.probe in
    let gone : T (part (words sets) probe.field probe.option) → ⊥ =
    elim c.then-x-self.branch [
      | then-x-self-via-then-x-self w ↦ λ t. absurd (omega (arith, is_field (words sets) probe.field probe.option t, length_words sets, c.from-x.ensures, w.if-x-self.true))
      | then-x-self-via-else-x-self+then-not-contains w ↦
          let inside : c.from-x.result < length sets = omega (arith, w.if-x-self.false) in
          λ t. T_no _ (sym w.contains.ensures ∙ w.if-not-contains.true)
          (subst (λ m. T (has m probe.option)) (ap (λ i. get_or (words sets) i 0) (sym c.from-x.ensures) ∙ word_of sets c.from-x.result (record { word = 0 }) inside) t)
    ] in
    λ rules first w taken b. (between_skip rules first (length sets) (words sets) (words c.args.self.now.pairs.now) w _ probe.field probe.option b (fits_are probe c.requires).1 taken gone, omega arith)

pub returns-in-Ok-false-clause-between : goal.returns-in-Ok-false-clause-between
returns-in-Ok-false-clause-between g c =
    let s = c.args.self.now in
    let n = length s.sets.now in
    let own = pair_rules n (pairs_of n (words s.pairs.now)) in
    let trial = c.copy_to.new.sets in
    let last = c.try_out.new.trial in
    let ch = chosen s.sets.now s.pairs.now trial last c.args.probe c.from-x.result c.requires s.few s.room c.from-x.ensures c.if-x-self.false (sym c.contains.ensures ∙ c.if-not-contains.false) (c.copy_to.auto.sets ∙ s.trial_long) c.copy_to.ensures c.try_out.auto.trial in
    let tried = subst (λ b. Tried own (words trial) (words last) (Ok b)) c.in-Ok-false.field-0-test c.in-Ok-false.ensures.tried in
    λ rules first w taken b. between_kept rules first n (words s.sets.now) (words s.pairs.now) (words trial) (words last) c.args.probe w _ ch taken b tried

pub returns-in-Ok-true-clause-between : goal.returns-in-Ok-true-clause-between
returns-in-Ok-true-clause-between g c =
    let s = c.args.self.now in
    let n = length s.sets.now in
    let own = pair_rules n (pairs_of n (words s.pairs.now)) in
    let trial = c.copy_to.new.sets in
    let last = c.try_out.new.trial in
    let ch = chosen s.sets.now s.pairs.now trial last c.args.probe c.from-x.result c.requires s.few s.room c.from-x.ensures c.if-x-self.false (sym c.contains.ensures ∙ c.if-not-contains.false) (c.copy_to.auto.sets ∙ s.trial_long) c.copy_to.ensures c.try_out.auto.trial in
    let tried = subst (λ b. Tried own (words trial) (words last) (Ok b)) c.in-Ok-true.field-0-test c.in-Ok-true.ensures.tried in
    let e : c.take_away.new.row.words.now ≡ c.pairs-in-Ok-true-1.given.0 = search rules in
    λ rules first w taken b. rw (← e) (between_lost_less rules first n (words s.sets.now) (words s.pairs.now) (words trial) (words last) c.args.probe w _ ch taken b _ c.take_away.ensures.put c.take_away.ensures.all _ tried c.take_away.ensures.leaves c.take_away.ensures.lost)

-- an option that stands is taken out of its set
struck : (sets : List OptionSet) (p : Probe) (i : ℕ) (v : OptionSet) → i ≡ p.field → i < length sets → has (get_or sets i (record { word = 0 })).word p.option ≡ true
    → v.word ≡ set_without (get_or sets i (record { word = 0 })).word p.option → words (set sets i v) ≡ without (words sets) p.field p.option
struck sets p i v e inside has_it is =
    let read : (get_or sets i (record { word = 0 })).word ≡ get_or (words sets) p.field 0 = sym (word_of sets i (record { word = 0 }) inside) ∙ ap (λ k. get_or (words sets) k 0) e in
    words_set sets i v ∙ ap (λ m. set (words sets) i m) (is ∙ without_is (get_or sets i (record { word = 0 })).word p.option (T_yes _ has_it) ∙ ap (λ m. m - 2 ^ p.option) read)
    ∙ ap (λ k. set (words sets) k (get_or (words sets) p.field 0 - 2 ^ p.option)) e

pub returns-then-is_empty-clause-between : goal.returns-then-is_empty-clause-between
returns-then-is_empty-clause-between g c =
    let s = c.args.self.now in
    let n = length s.sets.now in
    let trial = c.copy_to.new.sets in
    let last = c.try_out.new.trial in
    let ch = chosen s.sets.now s.pairs.now trial last c.args.probe c.from-x.result c.requires s.few s.room c.from-x.ensures c.if-x-self.false (sym c.contains.ensures ∙ c.if-not-contains.false) (c.copy_to.auto.sets ∙ s.trial_long) c.copy_to.ensures c.try_out.auto.trial in
    let zeros : c.fill.new.self ≡ replicate (length last) c.empty.result = c.fill.ensures.after (λ y h. search rules) in
    let none : (i : ℕ) → get_or (words c.fill.new.self) i 0 ≡ 0 = λ i. ap (λ l. get_or (words l) i 0) zeros ∙ all_empty (length last) i c.empty.result c.empty.ensures in
    let e : c.take_away-2.new.row.words.now ≡ c.pairs-2-1.given.0 = search rules in
    λ rules first w taken b. rw (← e) (between_struck rules first n (words s.sets.now) (words s.pairs.now) (words trial) (words last) c.args.probe w _ ch taken b _ c.take_away-2.ensures.put c.take_away-2.ensures.all (words c.fill.new.self) _ _ c.in-Err.field-0 c.in-Err.ensures.tried none c.take_away-2.ensures.leaves
    (struck s.sets.now c.args.probe c.from-x.result c.without.result c.from-x.ensures c.if-x-self.false (sym c.contains.ensures ∙ c.if-not-contains.false) c.without.ensures))

pub returns-clause-between : goal.returns-clause-between
returns-clause-between g c =
    let s = c.args.self.now in
    let n = length s.sets.now in
    let trial = c.copy_to.new.sets in
    let last = c.try_out.new.trial in
    let ch = chosen s.sets.now s.pairs.now trial last c.args.probe c.from-x.result c.requires s.few s.room c.from-x.ensures c.if-x-self.false (sym c.contains.ensures ∙ c.if-not-contains.false) (c.copy_to.auto.sets ∙ s.trial_long) c.copy_to.ensures c.try_out.auto.trial in
    let zeros : c.fill.new.self ≡ replicate (length last) c.empty.result = c.fill.ensures.after (λ y h. search rules) in
    let none : (i : ℕ) → get_or (words c.fill.new.self) i 0 ≡ 0 = λ i. ap (λ l. get_or (words l) i 0) zeros ∙ all_empty (length last) i c.empty.result c.empty.ensures in
    let e : c.take_away-2.new.row.words.now ≡ c.pairs-2-1.given.0 = search rules in
    λ rules first w taken b. rw (← e) (between_struck rules first n (words s.sets.now) (words s.pairs.now) (words trial) (words last) c.args.probe w _ ch taken b _ c.take_away-2.ensures.put c.take_away-2.ensures.all (words c.fill.new.self) _ _ c.in-Err.field-0 c.in-Err.ensures.tried none c.take_away-2.ensures.leaves
    (struck s.sets.now c.args.probe c.from-x.result c.without.result c.from-x.ensures c.if-x-self.false (sym c.contains.ensures ∙ c.if-not-contains.false) c.without.ensures))

pub returns-clause-filled : goal.returns-clause-filled
returns-clause-filled g c =
    let sets = c.args.self.now.sets.now in
    let i = c.from-x.result in
    let v = c.without.result in
    let now : (get_or (set sets i v) i (record { word = 0 })).word ≡ v.word = ap (λ s. s.word) (get_or-set_same sets i v (record { word = 0 }) c.if-x-self.false) in
    λ f. subst Filled (sym (words_set sets i v)) (filled_without (words sets) i v.word (λ zero. eqb-false _ 0 (sym c.is_empty.ensures ∙ c.if-is_empty.false) (now ∙ zero)) f)
