use Rattle.std.proofs.Common.{◌^◌, ◌<◌, sym, ◌∙◌, arith, rules}
use Rattle.std.proofs.lemmas.Bool.{le-ltb}
use Rattle.network.proofs.Bits.{has_none}
use Rattle.network.proofs.options.OptionSet.contains.Goals as goal

-- no option so high is in a set
pub returns-else-option-lt-OPTIONS : goal.returns-else-option-lt-OPTIONS
returns-else-option-lt-OPTIONS c =
    let fits : c.args.self.word < 2 ^ 32 = search rules in
    le-ltb c.args.option 32 (omega arith) ∙ sym (has_none 32 c.args.self.word c.args.option fits (omega arith))
