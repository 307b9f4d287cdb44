use Rattle.std.proofs.Common.{◌≡◌, ◌∙◌, rules, arith, length, ap, zero-add}
use Rattle.std.proofs.lemmas.Iterator.{YieldsList-from_range}
use Rattle.std.proofs.lemmas.Iterator.Search.{any_from_yields_List}
use Rattle.books.specs.Reads.{asked}
use Rattle.books.proofs.Asked.{asked_is}
use Rattle.network.specs.Network.{no_rule}
use Rattle.propagation.specs.Refusals.{unfit}
use Rattle.propagation.proofs.Searches.{any_by_index}
use Rattle.propagation.proofs.opening.any_unfit.Goals as goal

pub returns : goal.returns
returns g c =
    let rs = g.B.Book.meaning c.args.book.now in
    let count : c.count.result ≡ length rs = omega (arith, c.count.ensures, c.requires) in
    any_from_yields_List (λ r. unfit c.args.fields (asked rs r)) _ _ _ c.any.ensures.ran (YieldsList-from_range 0 c.count.result (length rs) (cc) (omega arith)) (λ x b q k. search rules)
    ∙ any_by_index (unfit c.args.fields) (asked rs) no_rule rs 0 (λ i lt. ap (asked rs) (zero-add i) ∙ asked_is rs i (omega (arith, c.requires)))
