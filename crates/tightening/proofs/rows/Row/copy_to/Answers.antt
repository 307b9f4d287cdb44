use Rattle.std.proofs.Common.{◌≡◌, ◌^◌, ◌<◌, ◌≢◌, cond, length, get_or, set, sym, ap, ◌∙◌, ⊎_elim, arith}
use Rattle.std.proofs.lemmas.List.{get_or-set_same, get_or-set_other}
use Rattle.std.proofs.lemmas.Bool.{cases_eq, eq-eqb, ne_eqb}
use Rattle.network.specs.Network.{words}
use Rattle.network.proofs.Masks.{alone_is}
use Rattle.network.proofs.Words.{length_words, words_set}
use Rattle.tightening.specs.Rows.{word_to}
use Rattle.tightening.proofs.rows.Row.copy_to.Goals as goal

pub returns : goal.returns
returns c y h =
    let own = c.args.self.now.own in
    let list = words c.args.self.now.words.now in
    let sets = c.copy_from_slice.new.self in
    let f = c.from.result in
    let v = c.only.result.word in
    let inside : f < length (words sets) = omega (arith, length_words sets, c.from.ensures, c.copy_from_slice.ensures.len, c.requires, c.args.self.now.in_table.field) in
    ap (λ ws. get_or ws y 0) (words_set sets f c.only.result) ∙ ⊎_elim
    (λ (e : y ≡ f).
    ap (λ z. get_or (set (words sets) f v) z 0) e ∙ get_or-set_same (words sets) f v 0 inside ∙ c.only.ensures ∙ alone_is own.option c.args.self.now.in_table.option
    ∙ sym (ap (λ t. cond t (2 ^ own.option) (word_to own list y)) (eq-eqb own.field y (sym (e ∙ c.from.ensures)))))
    (λ (ne : y ≢ f).
    get_or-set_other (words sets) f y v 0 ne ∙ ap (λ s. get_or (words s) y 0) c.copy_from_slice.ensures.after ∙ c.partners.ensures.words y h
    ∙ sym (ap (λ t. cond t (2 ^ own.option) (word_to own list y)) (ne_eqb own.field y (λ e. ne (sym e ∙ sym c.from.ensures)))))
    (cases_eq y f)
