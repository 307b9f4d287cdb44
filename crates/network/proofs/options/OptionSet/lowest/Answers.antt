use Rattle.std.proofs.Common.{◌≡◌, ◌^◌, ◌<◌, false, eqb, Some, None, sym, arith, rules}
use lib.Count.{count_trailing_zeros}
use Rattle.std.proofs.lemmas.Bool.{cond-false, eqb-false}
use Rattle.network.proofs.Bits.{trailing_lowest}
use Rattle.network.proofs.options.OptionSet.lowest.Goals as goal

pub returns : goal.returns
returns c =
    let w = c.args.self.word in
    let fits : w < 2 ^ 32 = search rules in
    let filled : eqb w 0 ≡ false = sym c.if-is_empty.ensures in
    record {
      answer = sym (cond-false (eqb w 0) None (Some (count_trailing_zeros 32 w)) filled);
      least = trailing_lowest 32 w fits (omega (arith, eqb-false w 0 filled));
    }
