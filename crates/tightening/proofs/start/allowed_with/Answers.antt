use Rattle.std.proofs.Common.{sym, ◌∙◌, subst}
use Rattle.network.proofs.Truth.{T_yes, T_no}
use Rattle.books.specs.Reads.{allowed}
use Rattle.tightening.proofs.Starting.{Kept, kept_passes, kept_dropped}
use Rattle.tightening.proofs.start.allowed_with.Goals as goal

pub loop-other-preserved-then-not-allows : goal.loop-other-preserved-then-not-allows
loop-other-preserved-then-not-allows g c =
    let passes = allowed (g.B.Book.meaning c.args.book.now) c.args.rule c.args.option in
    let set = c.args.set.word in
    let w = c.loop-other.waiting.word in
    let passing = c.loop-other.passing.word in
    let b = c.in-Some.other in
    subst (λ v. Kept passes set v c.without-passing.result.word) (sym c.in-Some.ensures.after)
    (kept_dropped passes set w passing b c.without-passing.result.word c.in-Some.ensures.least.0 (T_no (passes b) (sym c.allows.ensures ∙ c.if-not-allows.true)) c.without-passing.ensures c.loop-other.invariant)

pub loop-other-preserved : goal.loop-other-preserved
loop-other-preserved g c =
    let passes = allowed (g.B.Book.meaning c.args.book.now) c.args.rule c.args.option in
    let set = c.args.set.word in
    let w = c.loop-other.waiting.word in
    let passing = c.loop-other.passing.word in
    let b = c.in-Some.other in
    subst (λ v. Kept passes set v passing) (sym c.in-Some.ensures.after)
    (kept_passes passes set w passing b c.in-Some.ensures.least.0 (T_yes (passes b) (sym c.allows.ensures ∙ c.if-not-allows.false)) c.loop-other.invariant)
