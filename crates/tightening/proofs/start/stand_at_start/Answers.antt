use Rattle.std.proofs.Common.{arith}
use Rattle.network.specs.Network.{words}
use Rattle.network.proofs.Words.{length_words}
use Rattle.tightening.proofs.Starting.{written_all}
use Rattle.tightening.proofs.start.stand_at_start.Goals as goal

pub loop-rule-init : goal.loop-rule-init
loop-rule-init g c =
    let sets = c.args.sets.now in
    let room = c.requires.room in
    written_all (words sets) (words c.start_pairs.new.pairs) c.requires.accepted.few c.requires.accepted.fit
    (λ i l. c.start_pairs.ensures i (omega (arith, l, room, length_words sets, length_words c.args.pairs.now)))
