use Rattle.std.proofs.Common.{◌-◌, ◌^◌, ◌<◌, ap, ◌∙◌, rules}
use lib.Bits.{bit_and}
use Rattle.network.proofs.Masks.{and_not_one}
use Rattle.network.proofs.options.OptionSet.without.Goals as goal

pub returns : goal.returns
returns c =
    let fits : c.args.self.word < 2 ^ 32 = search rules in
    ap (λ m. bit_and c.args.self.word (4294967295 - m)) c.only.ensures ∙ and_not_one 32 c.args.self.word c.args.option fits
