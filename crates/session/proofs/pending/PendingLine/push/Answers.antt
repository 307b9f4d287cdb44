use Rattle.std.proofs.Common.{◌≤◌, [], ◌∷◌, ◌++◌, length, sym, ◌∙◌, arith}
use Rattle.std.proofs.lemmas.Bool.{eqb-true, eqb-false}
use Rattle.std.proofs.lemmas.List.{length_push, take_all, take_at}
use Rattle.session.specs.Pending.{kept}
use Rattle.session.proofs.pending.PendingLine.push.Goals as goal

pub returns-then-not-is_full : goal.returns-then-not-is_full
returns-then-not-is_full c =
    let bytes = kept c.args.self.now in
    let b = c.args.byte in
    let room : length (bytes ++ b ∷ []) ≤ 34 = omega (arith, length_push bytes b, eqb-false (length bytes) 34 (sym c.if-not-is_full.ensures.value), c.if-not-is_full.ensures.fits) in
    c.push.ensures.items ∙ sym (take_all 34 (bytes ++ b ∷ []) room)

pub returns-else-not-is_full : goal.returns-else-not-is_full
returns-else-not-is_full c =
    let bytes = kept c.args.self.now in
    sym (take_at bytes (c.args.byte ∷ []) 34 (eqb-true (length bytes) 34 (sym c.if-not-is_full.ensures.value)))
