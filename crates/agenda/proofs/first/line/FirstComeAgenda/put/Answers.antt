use Rattle.std.proofs.Common.{◌≡◌, sym, ap, ◌∙◌, arith}
use Rattle.std.proofs.lemmas.Bool.{lt-ltb}
use Rattle.agenda.specs.Sequence.{among}
use Rattle.agenda.specs.Lined.{line}
use Rattle.agenda.proofs.Sequences.{lined_again, lined_new, lined_waits}
use Rattle.agenda.proofs.Places.{room, put_ring, put_marked}
use Rattle.agenda.proofs.first.line.FirstComeAgenda.put.Goals as goal

pub returns-then-contains : goal.returns-then-contains
unfolding line
returns-then-contains c =
    let f = c.args.self.now in
    let n = c.in-Some.number.value in
    let order = sym (lined_again (line f) n (sym (f.marked n) ∙ sym c.if-contains.ensures)) in
    let is : n ≡ c.args.number = c.in-Some.ensures in
    rw (← is) (record { answer = sym (lt-ltb n 512 (omega arith)); waiting = λ k. ap (λ l. among l k) order ∙ lined_waits (line f) n k; order = order })

pub overflow_add-self : goal.overflow_add-self
overflow_add-self c = let few = room c.args.self.now c.in-Some.number.value (omega arith) (sym c.if-contains.ensures) (omega arith) in omega (arith, c.args.self.now.within)

pub overflow_add-self-2 : goal.overflow_add-self-2
overflow_add-self-2 c = let few = room c.args.self.now c.in-Some.number.value (omega arith) (sym c.if-contains.ensures) (omega arith) in omega arith

pub invariant_of-self : goal.invariant_of-self
invariant_of-self c =
    let f = c.args.self.now in
    let marked = put_marked f c.in-Some.number.value (omega arith) (sym c.if-contains.ensures) (omega arith) (omega arith) c.insert.new.self c.insert.ensures in
    record { within = f.within; marked = marked.0; once = marked.1 }

pub returns : goal.returns
unfolding line
returns c =
    let f = c.args.self.now in
    let n = c.in-Some.number.value in
    let off = sym c.if-contains.ensures in
    let order = put_ring f n (omega arith) off (omega arith) (omega arith) ∙ sym (lined_new (line f) n (omega arith) (sym (f.marked n) ∙ off)) in
    let is : n ≡ c.args.number = c.in-Some.ensures in
    rw (← is) (record { answer = sym (lt-ltb n 512 (omega arith)); waiting = λ k. ap (λ l. among l k) order ∙ lined_waits (line f) n k; order = order })
