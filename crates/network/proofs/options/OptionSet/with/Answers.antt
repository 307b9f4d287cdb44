use Rattle.std.proofs.Common.{◌^◌, ◌<◌, ap, ◌∙◌, rules}
use lib.Bits.{bit_or}
use Rattle.network.proofs.Masks.{or_one}
use Rattle.network.proofs.options.OptionSet.with.Goals as goal

pub returns : goal.returns
returns c =
    let fits : c.args.self.word < 2 ^ 32 = search rules in
    ap (bit_or c.args.self.word) c.only.ensures ∙ or_one 32 c.args.self.word c.args.option fits
