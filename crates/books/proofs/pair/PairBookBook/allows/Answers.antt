use Rattle.std.proofs.Common.{min, sym, ◌∙◌, arith}
use Rattle.network.specs.Network.{field_limit, words}
use Rattle.books.proofs.Asked.{allowed_by}
use Rattle.books.proofs.PairBooks.{pair_allows}
use Rattle.books.proofs.pair.PairBookBook.allows.Goals as goal

pub returns : goal.returns
returns c =
    let n = min field_limit c.args.self.now.fields in
    rw c.paired.ensures
    (pair_allows n (omega arith) (words c.args.self.now.words.now) c.args.rule c.in-Some.ends.left c.in-Some.ends.right c.in-Some.ensures.ends.0 c.in-Some.ensures.ends.1 c.args.left c.args.right
    ∙ sym (allowed_by _ _ _ c.in-Some.ensures.between c.args.left c.args.right))

pub returns-in_default : goal.returns-in_default
returns-in_default c = sym (allowed_by _ _ _ c.in_default.ensures.between c.args.left c.args.right)
