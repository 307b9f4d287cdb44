use Rattle.std.proofs.Common.{sym, subst}
use Rattle.network.proofs.Walks.{Walk, walk_less}
use Rattle.network.proofs.options.OptionSet.find.Goals as goal

pub loop-option-preserved : goal.loop-option-preserved
loop-option-preserved g c = (
  c.loop-option.invariant.0,
  subst (Walk (λ a yes. goal.F-post g c.args.test a yes) c.args.self.word) (sym c.in-Some.ensures.after)
      (walk_less _ _ _ c.in-Some.option c.loop-option.invariant.1 c.in-Some.ensures.least.0 c.if-test.ensures),
)
