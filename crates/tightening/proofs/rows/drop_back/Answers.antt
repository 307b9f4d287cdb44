use Rattle.std.proofs.Common.{◌≡◌, ◌-◌, ◌^◌, ◌<◌, ◌||◌, T, length, get_or, set, sym, ap, ◌∙◌, subst, arith}
use Rattle.books.specs.Pairs.{word_at}
use Rattle.network.specs.Network.{has, words}
use Rattle.network.specs.Sets.{set_without}
use Rattle.network.proofs.Truth.{T_yes, T_no, T_left}
use Rattle.network.proofs.Bits.{has_less}
use Rattle.network.proofs.Words.{length_words, word_of, words_set}
use Rattle.tightening.specs.Rows.{pairs_in, less_back, Leaves, word_to}
use Rattle.tightening.proofs.TakingAway.{partner_option, step_drop, step_skip}
use Rattle.tightening.proofs.rows.drop_back.Goals as goal

pub loop-with-preserved-then-not-contains : goal.loop-with-preserved-then-not-contains
loop-with-preserved-then-not-contains c =
    let row = c.args.own in
    let first = words c.args.words.now in
    let pairs = c.loop-with.words in
    let y = c.args.other in
    let keep = c.args.keep.word in
    let w = c.loop-with.waiting.word in
    let d = c.in-Some.with in
    let h = c.in-Some.ensures.least.0 in
    let l = partner_option row first c.requires.table y c.requires.other c.requires.pairs d (c.loop-with.invariant.2 d h) in
    let i = word_at y d row.field in
    let inside : c.word_place-at.result < length pairs =
    omega (arith, l, c.word_place-at.ensures, c.requires.table.few, c.requires.table.field, c.requires.table.room, c.requires.other, c.loop-with.invariant.0.long, length_words pairs, length_words c.args.words.now) in
    let read : c.without.result.word ≡ set_without (get_or (words pairs) i 0) row.option =
    c.without.ensures ∙ ap (λ v. set_without v row.option) (sym (word_of pairs c.word_place-at.result (record { word = 0 }) inside) ∙ ap (λ k. get_or (words pairs) k 0) c.word_place-at.ensures) in
    let out = T_no (has keep d) (sym c.contains.ensures ∙ c.if-not-contains.true) in
    let step = step_drop row first (words pairs) c.requires.table y c.requires.other c.requires.apart (has keep) w d c.without.result.word h l out c.loop-with.invariant.0 c.loop-with.invariant.1 read in
    let there : set (words pairs) i c.without.result.word ≡ words (set pairs c.word_place-at.result c.without.result) =
    ap (λ k. set (words pairs) k c.without.result.word) (sym c.word_place-at.ensures) ∙ sym (words_set pairs c.word_place-at.result c.without.result) in (
      subst (λ v. Leaves row.fields first (words (set pairs c.word_place-at.result c.without.result)) (less_back (pairs_in row first) row.field row.option y (λ b. has keep b || has v b))) (sym c.in-Some.ensures.after)
          (subst (λ ws. Leaves row.fields first ws (less_back (pairs_in row first) row.field row.option y (λ b. has keep b || has (w - 2 ^ d) b))) there step.0),
      subst (λ ws. word_to row ws y ≡ word_to row first y) there step.1,
      λ b t. c.loop-with.invariant.2 b (T_left (has w b) _ (subst T (ap (λ v. has v b) c.in-Some.ensures.after ∙ has_less w d b h) t)),
    )

pub loop-with-preserved : goal.loop-with-preserved
loop-with-preserved c =
    let row = c.args.own in
    let first = words c.args.words.now in
    let y = c.args.other in
    let keep = c.args.keep.word in
    let w = c.loop-with.waiting.word in
    let d = c.in-Some.with in
    let h = c.in-Some.ensures.least.0 in
    let kept = T_yes (has keep d) (sym c.contains.ensures ∙ c.if-not-contains.false) in (
      subst (λ v. Leaves row.fields first (words c.loop-with.words) (less_back (pairs_in row first) row.field row.option y (λ b. has keep b || has v b))) (sym c.in-Some.ensures.after)
          (step_skip row first (words c.loop-with.words) c.requires.table y c.requires.other c.requires.apart (has keep) w d h kept c.loop-with.invariant.0),
      c.loop-with.invariant.1,
      λ b t. c.loop-with.invariant.2 b (T_left (has w b) _ (subst T (ap (λ v. has v b) c.in-Some.ensures.after ∙ has_less w d b h) t)),
    )
