use Rattle.std.proofs.Common.{◌*◌, ◌^◌, ◌<◌, ◌≤◌, sym, ap, ◌∙◌, arith, pow_mono, rules}
use native.Mathlib.Nat.{div-eq_of_lt}
use Rattle.network.proofs.options.OptionSet.starting_at.Goals as goal

-- no option is so high
pub returns-then-bound-ge-OPTIONS : goal.returns-then-bound-ge-OPTIONS
returns-then-bound-ge-OPTIONS c =
    let fits : c.args.self.word < 2 ^ 32 = search rules in
    let wide : 32 ≤ c.args.bound = omega arith in
    let most : 2 ^ 32 ≤ 2 ^ c.args.bound = pow_mono wide in
    c.empty.ensures ∙ sym (ap (λ q. q * 2 ^ c.args.bound) (div-eq_of_lt (omega arith)) ∙ omega arith)
