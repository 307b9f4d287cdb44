use Rattle.std.proofs.Common.{Ok, refl}
use Rattle.std.proofs.lemmas.Result.{err_from_is_err_and}
use Rattle.catalogue.specs.View.{content}
use Rattle.session.proofs.Passing.{answered_so}
use Rattle.session.proofs.session.Session.serve.Goals as goal

pub returns-in_err-enter : goal.returns-in_err-enter
returns-in_err-enter c =
    let p = err_from_is_err_and c.from_residual-in_err-enter.result c.from_residual-in_err-enter.ensures.1 in
    let frame = c.in_ok-frame.frame in
    let refused = c.in_err-enter.ensures in
    rw (p.1, p.2)
    (record {
      served = record {
        asked = Ok frame;
        received = c.in_ok-frame.ensures;
        answers = answered_so (content c.args.self.now.catalogue) frame c.in_err-enter.field-0.0 refused.answers;
        holds = refused.after;
      };
      lines = refl;
    })
