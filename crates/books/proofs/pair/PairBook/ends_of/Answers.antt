use Rattle.std.proofs.Common.{min, arith, rules}
use Rattle.network.specs.Network.{field_limit, words}
use Rattle.books.specs.Pairs.{PairEnds}
use Rattle.books.proofs.PairBooks.{pair_between}
use Rattle.books.proofs.pair.PairBook.ends_of.Goals as goal

pub returns-clause-between : goal.returns-clause-between
returns-clause-between c =
    let n = min field_limit c.args.self.now.fields in
    let ends : PairEnds n c.args.rule c.pair_ends.result = search rules in
    pair_between n (omega arith) (words c.args.self.now.words.now) c.args.rule c.pair_ends.result ends
