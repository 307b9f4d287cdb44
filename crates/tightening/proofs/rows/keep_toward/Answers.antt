use Rattle.std.proofs.Common.{◌≡◌, ◌<◌, ◌⊎◌, length, get_or, set, sym, ap, ◌∙◌, subst, arith}
use lib.Bits.{bit_and}
use Rattle.books.specs.Pairs.{word_at}
use Rattle.network.specs.Network.{has, words}
use Rattle.network.proofs.Words.{length_words, word_of, words_set}
use Rattle.propagation.specs.Strikes.{options}
use Rattle.tightening.specs.Rows.{pairs_in, less_toward, Leaves, word_to, AllPass}
use Rattle.tightening.proofs.TakingAway.{place_inside, masked}
use Rattle.tightening.proofs.rows.keep_toward.Goals as goal

pub returns : goal.returns
returns c =
    let row = c.args.own in
    let first = words c.args.words.now in
    let pairs = c.drop_back.new.words in
    let y = c.args.other in
    let mask = c.args.keep.word in
    let v = c.intersection.result in
    let inside : c.word_place-at.result < length pairs =
    omega (arith, c.word_place-at.ensures, place_inside row _ c.requires.table y c.requires.other, c.requires.table.room, c.drop_back.ensures.leaves.long, length_words pairs, length_words c.args.words.now) in
    let own : (get_or pairs c.word_place-at.result (record { word = 0 })).word ≡ word_to row (words pairs) y =
    sym (word_of pairs c.word_place-at.result (record { word = 0 }) inside) ∙ ap (λ k. get_or (words pairs) k 0) c.word_place-at.ensures in
    let is : v.word ≡ bit_and (word_to row (words pairs) y) mask = c.intersection.ensures ∙ ap (λ w. bit_and w mask) own in
    let there : set (words pairs) (word_at row.field row.option y) v.word ≡ words (set pairs c.word_place-at.result v) =
    ap (λ k. set (words pairs) k v.word) (sym c.word_place-at.ensures) ∙ sym (words_set pairs c.word_place-at.result v) in
    let done = masked row first (words pairs) c.requires.table y c.requires.other mask v.word c.drop_back.ensures.leaves c.drop_back.ensures.same is in
    record {
      leaves = subst (λ ws. Leaves row.fields first ws (less_toward (pairs_in row first) row.field row.option y (has mask))) there done.0;
      lost = subst (λ ws. AllPass (pairs_in row first) row.field row.option y (has mask) ⊎ (options ws < options first)) there done.1;
    }
