use Rattle.std.proofs.Common.{◌≡◌, ℕ, T}
use Rattle.network.specs.Network.{part, words}
use Rattle.propagation.specs.Arcs.{Supported, Elsewhere}
use Rattle.propagation.specs.Standing.{Led}
use Rattle.propagation.proofs.Steps.{Walk}
use Rattle.propagation.proofs.standing.Standing.revise.Given as goal

abbrev pub invariant-loop-option : goal.invariant-loop-option
invariant-loop-option g l =
    let rules = g.B.Book.meaning l.initial.book in
    let first = words l.initial.self.sets.now in
    let sets = words l.self.sets.now in
    let arc = l.place in record {
      same : g.B.Book.meaning l.book ≡ rules;
      led : Led rules l.initial.self l.self;
      elsewhere : Elsewhere first sets arc.own;
      stays : (a : ℕ) → Supported rules (part first) arc.arc.side arc.arc.rule a → T (part first arc.own a) → T (part sets arc.own a);
      walk : Walk rules sets arc.arc.side arc.arc.rule arc.own l.waiting.word;
    }

abbrev pub decreases-loop-option : goal.decreases-loop-option
decreases-loop-option g l = l.waiting.word
