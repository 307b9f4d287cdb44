use Rattle.std.proofs.Common.{◌≡◌, ℕ, ◌<◌, List, length, get_or, sym, ap, ◌∙◌, subst, arith}
use Rattle.std.proofs.lemmas.Bool.{eqb-false}
use Rattle.network.specs.Network.{Rule, words}
use Rattle.network.specs.declared.options.OptionSet.{OptionSet}
use Rattle.network.specs.declared.rules.Ends.{Ends}
use Rattle.network.specs.declared.rules.Arc.{Arc}
use Rattle.network.proofs.Words.{length_words, word_of}
use Rattle.propagation.specs.Arcs.{no_ends, placed, ArcAt, Revised, Sound, Listed, BetweenFields, OnlyBelow, Neighbours}
use Rattle.propagation.specs.Progress.{Filled}
use Rattle.propagation.specs.Turns.{work}
use Rattle.propagation.proofs.Steps.{progress_shrinks, progress_length}
use Rattle.propagation.proofs.Ends.{listed_between, others_still, others_put, filled_after, work_less}
use Rattle.propagation.proofs.standing.Standing.turn.Goals as goal

-- an arc with the ends that the list tells lies between its fields
arc_at : (rules : List Rule) (sets : List ℕ) (ends : List Ends) (arc : Arc) → Sound rules sets → Listed rules ends → arc.rule < length rules → ArcAt rules sets (placed arc (get_or ends arc.rule no_ends))
arc_at rules sets ends arc sound listed lt = record { sound = sound; rule = lt; field = listed.own arc.rule arc.side lt; other = listed.across arc.rule arc.side lt }

pub returns-then-not-revise-clause-cases : goal.returns-then-not-revise-clause-cases
returns-then-not-revise-clause-cases g c =
    let rules = g.B.Book.meaning c.args.book.now in
    let s = words c.args.self.now.sets.now in
    let s' = words c.revise.new.self.sets.now in
    let w = g.W.Agenda.waiting c.args.agenda.now in
    let done = c.revise.ensures in
    let e : s' ≡ s = done.unchanged c.if-not-revise.true in
    record {
      filled = subst Filled (sym e) c.requires.ready.filled;
      only = c.requires.ready.only;
      others = others_still rules s s' _ (subst (Revised rules s s') c.new-place.ensures done.revised) w e c.requires.ready.others;
      less = omega (arith, ap (λ z. work z w) e);
    }

pub put_neighbours-requires-clause-fields : goal.put_neighbours-requires-clause-fields
put_neighbours-requires-clause-fields g c =
    let rules = g.B.Book.meaning c.args.book.now in
    let ends = c.args.ends.now in
    let s = words c.args.self.now.sets.now in
    let s' = c.revise.new.self.sets.now in
    let same : length s ≡ length c.sets.result.now = omega (arith, ap (length {A = OptionSet}) c.sets.ensures, length_words s', progress_length rules s (words s') _ _ c.revise.ensures.led.progress) in
    subst (BetweenFields ends) same (listed_between rules s ends c.requires.ready.sound c.requires.listed)

pub returns : goal.returns
returns g c =
    let rules = g.B.Book.meaning c.args.book.now in
    let slice = c.revise.new.self.sets.now in
    let s = words c.args.self.now.sets.now in
    let s' = words slice in
    let w = g.W.Agenda.waiting c.args.agenda.now in
    let w' = g.W.Agenda.waiting c.put_neighbours.new.agenda in
    let done = c.revise.ensures in
    let put = c.put_neighbours.ensures in
    let p = done.led.progress in
    let arc = c.args.arc in
    let ends = c.args.ends.now in
    let place = c.new-place.result in
    let is = c.new-place.ensures in
    let listed = c.requires.listed in
    let count = listed.count in
    let sound = c.requires.ready.sound in
    let at = arc_at rules s ends arc sound listed c.requires.ready.rule in
    let revised = subst (Revised rules s s') is done.revised in
    let within : place.own < length slice = omega (arith, ap (λ p. p.own) is, at.field, sound.own_field arc.rule arc.side c.requires.ready.rule, length_words slice, progress_length rules s s' _ _ p) in
    let left : get_or s' place.own 0 ≡ 0 → ⊥ = λ e. eqb-false _ 0 (sym c.if-is_empty.ensures) (sym (word_of slice place.own (record { word = 0 }) within) ∙ e) in
    let every = subst (λ p. Neighbours ends (length rules) p.own p.arc.rule w') is (subst (λ n. Neighbours ends n place.own place.arc.rule w') count put.every) in
    record {
      same = done.same;
      led = done.led;
      cases = record {
        filled = filled_after s s' place.own (progress_length rules s s' _ _ p) done.revised.elsewhere left c.requires.ready.filled;
        only = subst (λ n. OnlyBelow n w') count put.only;
        others = others_put rules s s' _ revised at.field (progress_shrinks rules s s' _ _ p) ends listed w w' put.more every c.requires.ready.others;
        less = work_less s s' w w' (done.changed c.if-not-revise.false);
      };
    }

pub bounds-self-place : goal.bounds-self-place
bounds-self-place g c =
    let rules = g.B.Book.meaning c.args.book.now in
    let arc = c.args.arc in
    let slice = c.revise.new.self.sets.now in
    let ready = c.requires.ready in
    omega (arith, ap (λ p. p.own) c.new-place.ensures, c.requires.listed.own arc.rule arc.side ready.rule, ready.sound.own_field arc.rule arc.side ready.rule, length_words slice, progress_length rules (words c.args.self.now.sets.now) (words slice) _ _ c.revise.ensures.led.progress)
