use Rattle.network.proofs.Walks.{Walk}
use Rattle.network.proofs.options.OptionSet.find.Given as goal

abbrev pub invariant-loop-option : goal.invariant-loop-option
invariant-loop-option g l = goal.F-IsAlwaysCallable g l.test × Walk (λ a yes. goal.F-post g l.test a yes) l.fn.self.word l.waiting.word

abbrev pub decreases-loop-option : goal.decreases-loop-option
decreases-loop-option g l = l.waiting.word
