use Rattle.std.proofs.Common.{◌*◌, ◌/◌, min, ap, ◌∙◌, arith, rules}
use Rattle.std.proofs.lemmas.Nat.{mul-le}
use Rattle.network.specs.Network.{field_limit, words}
use Rattle.books.specs.Pairs.{pairs_of, triangle}
use Rattle.books.proofs.Pairing.{rules_length, triangle_few}
use Rattle.books.proofs.PairBooks.{half_square}
use Rattle.books.proofs.pair.PairBookBook.count.Goals as goal

pub overflow_mul-result : goal.overflow_mul-result
overflow_mul-result c =
    let most = mul-le c.field_count-fields.result c.saturating_sub.result field_limit 15 (omega arith) (omega arith) in
    search rules

pub returns : goal.returns
returns c =
    let n = min field_limit c.args.self.now.fields in
    ap (λ m. c.field_count-fields.result * m / 2) c.saturating_sub.ensures ∙ half_square c.field_count-fields.result ∙ ap triangle c.field_count-fields.ensures
    ∙ omega (arith, triangle_few n (omega arith), rules_length n (pairs_of n (words c.args.self.now.words.now)))
