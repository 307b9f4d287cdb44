use Rattle.std.proofs.Common.{◌<◌, length, sym, subst, arith}
use Rattle.network.specs.Network.{words}
use Rattle.network.proofs.Words.{length_words, words_set}
use Rattle.tightening.proofs.Starting.{Written, written_more}
use Rattle.tightening.proofs.start.start_pairs.Goals as goal

pub loop-place-preserved : goal.loop-place-preserved
loop-place-preserved c =
    let sets = words c.args.sets.now in
    let pairs = c.loop-place.pairs in
    let i = c.loop-place.place in
    let inside : i < length (words pairs) = omega (arith, length_words pairs) in
    subst (Written sets _) (sym (words_set pairs i c.first_word.result))
    (written_more sets i (words pairs) c.first_word.result.word inside c.first_word.ensures c.loop-place.invariant)
