use Rattle.std.proofs.Common.{drop, sym, refl, ap, arith}
use Rattle.agenda.specs.Sequence.{first_of}
use Rattle.agenda.specs.Ring.{around}
use Rattle.agenda.specs.Lined.{line}
use Rattle.agenda.proofs.Places.{take_ring, take_taken, take_below, take_marked}
use Rattle.agenda.proofs.first.line.FirstComeAgenda.take.Goals as goal

pub returns-then-self-eq0 : goal.returns-then-self-eq0
unfolding line around
returns-then-self-eq0 c = let none = c.if-self-eq0.true in rw none (record { taken = (λ k. refl, λ k. refl); answer = refl; order = refl })

pub overflow_cast-number : goal.overflow_cast-number
overflow_cast-number c = let h = take_below c.args.self.now c.if-self-eq0.false (omega arith) in omega arith

pub invariant_of-number : goal.invariant_of-number
invariant_of-number c = record { below = take_below c.args.self.now c.if-self-eq0.false (omega arith) }

pub invariant_of-self : goal.invariant_of-self
invariant_of-self c =
    let marked = take_marked c.args.self.now c.if-self-eq0.false c.remove.new.self c.remove.ensures in
    record { within = omega arith; marked = marked.0; once = marked.1 }

pub returns : goal.returns
unfolding line
returns c =
    let f = c.args.self.now in
    let some = c.if-self-eq0.false in
    record { taken = take_taken f some; answer = sym (ap first_of (take_ring f some)); order = sym (ap (drop 1) (take_ring f some)) }
