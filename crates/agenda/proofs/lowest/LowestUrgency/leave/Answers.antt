use Rattle.std.proofs.Common.{◌≡◌, is_some, None, Some, Option, refl, sym, ap, ◌∙◌, arith}
use Rattle.std.specs.Option.{option_map}
use Rattle.agenda.specs.declared.number.Number.{Number}
use Rattle.agenda.specs.Ranked.{urgencies_of}
use Rattle.agenda.proofs.Buckets.{listed_set, leaves_none, leaves_some}
use Rattle.agenda.proofs.lowest.LowestUrgency.leave.Goals as goal

has_value : (o : Option Number) → is_some (option_map (λ n. n.value) o) ≡ is_some o
has_value None = refl
has_value (Some n) = refl

pub invariant_of-self : goal.invariant_of-self
unfolding urgencies_of
invariant_of-self c =
    let last = ap is_some (sym c.lowest.ensures) ∙ has_value c.lowest.result ∙ c.if-is_none.ensures in
    let kept = leaves_none c.args.self.now c.args.number.value c.args.urgency (omega arith) (omega arith) (omega arith) c.requires c.remove.new.self c.remove.ensures last c.remove-then-is_none.new.self (rw c.from.ensures at c.remove-then-is_none.ensures) in
    record { within = kept.0; filed = kept.1; shown = kept.2 }

pub invariant_of-self-else-is_none : goal.invariant_of-self-else-is_none
unfolding urgencies_of
invariant_of-self-else-is_none c =
    let more = ap is_some (sym c.lowest.ensures) ∙ has_value c.lowest.result ∙ c.if-is_none.ensures in
    let kept = leaves_some c.args.self.now c.args.number.value c.args.urgency (omega arith) (omega arith) (omega arith) c.requires c.remove.new.self c.remove.ensures more in
    record { within = kept.0; filed = kept.1; shown = kept.2 }

pub returns-then-is_none : goal.returns-then-is_none
unfolding urgencies_of
returns-then-is_none c = listed_set c.args.self.now.urgencies c.args.number.value None (omega arith)

pub returns-else-is_none : goal.returns-else-is_none
unfolding urgencies_of
returns-else-is_none c = listed_set c.args.self.now.urgencies c.args.number.value None (omega arith)
