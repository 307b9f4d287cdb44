use Rattle.std.proofs.Common.{◌-◌, ◌^◌, ◌<◌, ◌≤◌, sym, ap, ◌∙◌, mod-eq_of_lt, arith, pow_mono, rules}
use lib.Bits.{bit_and, and_mask}
use Rattle.std.proofs.lemmas.Nat.{one_shl}
use Rattle.network.proofs.options.OptionSet.below.Goals as goal

-- every option is below the bound
pub returns-then-bound-ge-OPTIONS : goal.returns-then-bound-ge-OPTIONS
returns-then-bound-ge-OPTIONS c =
    let fits : c.args.self.word < 2 ^ 32 = search rules in
    let wide : 32 ≤ c.args.bound = omega arith in
    let most : 2 ^ 32 ≤ 2 ^ c.args.bound = pow_mono wide in
    sym (mod-eq_of_lt (omega arith))

pub returns : goal.returns
returns c =
    ap (λ m. bit_and c.args.self.word (m - 1)) (one_shl c.args.bound 32 (omega arith)) ∙ and_mask c.args.self.word c.args.bound
