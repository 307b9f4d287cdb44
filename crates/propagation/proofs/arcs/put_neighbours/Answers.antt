use Rattle.std.proofs.Common.{◌≡◌, not, ◌&&◌, eqb, length}
use Rattle.std.proofs.lemmas.Bool.{and_from, eq-eqb, ne_eqb, not_from_false}
use Rattle.network.specs.declared.rules.Side.{Side}
use Rattle.network.specs.declared.rules.Side.TheVariants.{Left, Right}
use Rattle.propagation.specs.Arcs.{listed_across}
use Rattle.propagation.proofs.Puts.{both_below, both_still, neighbours_next}
use Rattle.propagation.proofs.arcs.put_neighbours.Goals as goal

pub loop-rule-preserved : goal.loop-rule-preserved
loop-rule-preserved g c =
    let w = g.W.Agenda.waiting in
    let ends = c.args.ends.now in
    let r = c.loop-rule.rule in
    let x = c.args.revised.own in
    let but = c.args.revised.arc.rule in
    let wanted = λ (side : Side). not (eqb r but) && eqb (listed_across ends side r) x in
    let told = λ (side : Side) (o : r ≡ but → ⊥) (e : listed_across ends side r ≡ x). and_from (not (eqb r but)) _ (not_from_false _ (ne_eqb r but o)) (eq-eqb _ x e) in
    let w₀ = w c.loop-rule.agenda in
    let w₁ = w c.put_neighbour.new.agenda in
    let w₂ = w c.put_neighbour-in-loop-rule.new.agenda in
    let left = c.put_neighbour.ensures in
    let right = c.put_neighbour-in-loop-rule.ensures in (
      both_below w₀ w₁ w₂ r (wanted Left) (wanted Right) left right (length ends) c.loop-rule-test.true c.loop-rule.invariant.0,
      λ k h. both_still w₀ w₁ w₂ r (wanted Left) (wanted Right) left right k (c.loop-rule.invariant.1 k h),
      neighbours_next w₀ w₁ w₂ r (wanted Left) (wanted Right) left right ends x but (told Left) (told Right) c.loop-rule.invariant.2,
    )
