use Rattle.std.proofs.Common.{◌≡◌, sym, refl, ap, ◌∙◌, arith}
use Rattle.std.proofs.lemmas.List.{append-nil}
use Rattle.std.proofs.lemmas.Bool.{le-leb}
use Rattle.catalogue.specs.Lent.{places, extended}
use Rattle.catalogue.proofs.Fronts.{same_places, extended_more}
use Rattle.catalogue.proofs.lent.LentVec.extend.Goals as goal

pub loop-i-init : goal.loop-i-init
loop-i-init g c = same_places (sym (append-nil (places c.args.self.now).entered)) refl

pub loop-i-preserved : goal.loop-i-preserved
loop-i-preserved g c =
    extended_more (places c.args.self.now) (places c.loop-i.self) (places c.push.new.self) c.loop-i._i c.args.value c.push.result
    c.loop-i.invariant (omega (arith, c.room.ensures)) c.push.ensures.answer c.push.ensures.after

pub returns : goal.returns
returns g c =
    let end : c.loop-i._i ≡ c.args.count = omega arith in
    record {
      answer = sym (le-leb c.args.count _ (omega (arith, c.room.ensures)));
      after = c.loop-i.invariant ∙ ap (λ n. extended (places c.args.self.now) n c.args.value) end;
    }
