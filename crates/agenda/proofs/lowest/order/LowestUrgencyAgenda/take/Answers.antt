use Rattle.std.proofs.Common.{None, sym, refl}
use Rattle.agenda.specs.Ranked.{urgencies_of}
use Rattle.agenda.proofs.Urgencies.{waits_dropped, order_rest}
use Rattle.agenda.proofs.lowest.order.LowestUrgencyAgenda.take.Goals as goal

pub returns : goal.returns
returns c =
    let u = urgencies_of c.args.self.now in
    let u' = urgencies_of c.withdraw.new.self in
    let n = c.in_ok-number.number.value in
    let foremost = c.in_ok-number.ensures in
    let out = c.withdraw.ensures in
    record {
      taken = (foremost.waits.1, waits_dropped u u' n None out refl);
      answer = foremost.answer;
      order = order_rest u u' n out (sym foremost.answer);
      urgencies = out;
    }
