use Rattle.std.proofs.Common.{◌^◌, ◌<◌, ap, ◌∙◌, arith, rules}
use Rattle.std.proofs.lemmas.Int.{ints}
use Rattle.std.proofs.lemmas.Bool.Decides.{nat_tests}
use Rattle.network.specs.Network.{option_limit, has}
use Rattle.network.proofs.Bits.{has_low}
use Rattle.books.proofs.Differences.{agree}
use Rattle.books.proofs.formula.up_to.Goals as goal

pub returns : goal.returns
returns c b =
    let w = c.args.set.word in
    let fits : w < 2 ^ option_limit = search rules in
    ap (λ v. has v b) c.below.ensures ∙ has_low w _ b ∙ agree w b _ _ fits (λ l. grind (arith, ints, nat_tests))
