use Rattle.std.proofs.Common.{ℕ, Bool, ap, ◌∙◌, get_or, rules}
use lib.Bits.{bit_and}
use Rattle.network.specs.Network.{has, words}
use Rattle.network.proofs.Bits.{has_and}
use Rattle.books.specs.Pairs.{word_at}
use Rattle.books.proofs.Found.{found_first, found_both}
use Rattle.books.proofs.pair.PairBook.partner_in.Goals as goal

pub returns : goal.returns
returns c =
    let list = words c.args.self.now.words.now in
    let w = c.args.set.word in
    let row = get_or list (word_at c.args.own c.args.option c.args.other) 0 in
    let second : ℕ → Bool = λ b. has (get_or list (word_at c.args.other b c.args.own) 0) c.args.option in
    found_both (has row) second w c.intersection.result.word (λ b. ap (λ m. has m b) (c.intersection.ensures ∙ ap (bit_and w) c.word.ensures) ∙ has_and w row b) c.find.result
    (found_first second c.intersection.result.word c.find.result _ _ c.find.ensures (λ b p. search rules) (λ b p. search rules))
