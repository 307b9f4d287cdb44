use Rattle.std.proofs.Common.{set, sym, ap, ◌∙◌}
use Rattle.network.specs.Network.{words}
use Rattle.network.specs.Sets.{set_with}
use Rattle.network.proofs.Words.{word_of, words_set}
use Rattle.propagation.proofs.undo.put_back_one.Goals as goal

pub returns : goal.returns
returns c =
    let sets = c.args.sets.now in
    let s = c.args.strike in
    words_set sets s.field c.with.result
    ∙ ap (set (words sets) s.field) (c.with.ensures ∙ ap (λ w. set_with w s.option) (sym (word_of sets s.field (record { word = 0 }) c.if-field-sets.false)))
