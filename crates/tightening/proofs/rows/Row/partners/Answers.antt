use Rattle.std.proofs.Common.{◌≡◌, ◌+◌, ◌-◌, ◌<◌, length, get_or, take, drop, sym, ap, ◌∙◌, arith}
use Rattle.std.proofs.lemmas.List.{length-take-le, length-drop, get_or-take, get_or-drop}
use Rattle.books.specs.Pairs.{word_at}
use Rattle.network.specs.Network.{words}
use Rattle.network.specs.declared.options.OptionSet.{OptionSet}
use Rattle.network.proofs.Words.{length_words, word_of}
use Rattle.tightening.proofs.rows.Row.partners.Goals as goal

pub returns-clause-words : goal.returns-clause-words
returns-clause-words c y h =
    let own = c.args.self.now.own in
    let list = c.args.self.now.words.now in
    let start = c.word_place-start.result in
    let k = (start + c.from.result) - start in
    let none : OptionSet = record { word = 0 } in
    let at = c.args.self.now.in_table in
    let short : y < k = omega (arith, c.from.ensures) in
    let last : start + k < length list + 1 = omega (arith, c.from.ensures, c.word_place-start.ensures, at.few, at.field, at.option, at.room, length_words list) in
    let inside : start + y < length list = omega arith in
    let long : y < length (take k (drop start list)) = omega (arith, length-take-le k (drop start list) (omega (arith, length-drop start list))) in
    let place : start + y ≡ word_at own.field own.option y = omega (arith, c.word_place-start.ensures) in
    word_of (take k (drop start list)) y none long ∙ ap (λ s. s.word) (get_or-take k (drop start list) y none short ∙ get_or-drop start list y none)
    ∙ sym (word_of list (start + y) none inside) ∙ ap (λ i. get_or (words list) i 0) place
