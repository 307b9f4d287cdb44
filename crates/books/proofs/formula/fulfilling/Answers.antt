use Rattle.std.proofs.Common.{◌≡◌, ℕ, ℤ, pos, ◌+ℤ◌, ◌-ℤ◌, ap, ◌∙◌, arith, w8, w16, SFits, to_z, of_z, rules}
use Rattle.std.proofs.Math.Bool.{and-or_distrib_left}
use Rattle.std.proofs.lemmas.Int.{ints, to_z-of_z}
use Rattle.network.specs.declared.rules.Side.{Side}
use Rattle.network.proofs.Bits.{has_or}
use Rattle.books.specs.Formula.{meeting_on}
use Rattle.books.proofs.Differences.{meets, differs, at_most, apart}
use Rattle.books.proofs.formula.fulfilling.Goals as goal

-- where the number is met, through the casts of the code
met : (side : Side) (a : ℕ) (d m : ℤ) → SFits w8 d → m ≡ meeting_on side a (to_z w8 (of_z w8 d)) → m ≡ meeting_on side a d
met side a d m small e = e ∙ ap (meeting_on side a) (to_z-of_z w8 d small)

pub returns-in-Equal : goal.returns-in-Equal
returns-in-Equal c b =
    let d = c.args.rule.difference in
    let is = met c.args.side c.args.option d c.meeting-across.result (search rules) c.meeting-across.ensures in
    let e = meets c.args.side c.args.option b d in
    rw (c.in-Equal.is, c.up_to.ensures b, c.starting_at.ensures b) (grind (arith, ints, e))

pub returns-in-Different : goal.returns-in-Different
returns-in-Different c b =
    let d = c.args.rule.difference in
    let m = c.meeting-across.result in
    let is = met c.args.side c.args.option d m (search rules) c.meeting-across.ensures in
    let fits : SFits w16 m = search rules in
    let less : SFits w16 (m -ℤ pos 1) = search rules in
    let more : SFits w16 (m +ℤ pos 1) = search rules in
    rw (
      c.in-Different.is,
      c.union.ensures,
      has_or,
      c.up_to-in-Different.ensures b,
      c.starting_at-in-Different.ensures b,
      ← and-or_distrib_left,
      to_z-of_z w16 m fits,
      to_z-of_z w16 (m -ℤ pos 1) less,
      to_z-of_z w16 (m +ℤ pos 1) more,
      is,
      differs c.args.side c.args.option b d,
    )

pub returns-in-AtMost : goal.returns-in-AtMost
returns-in-AtMost c b =
    let d = c.args.rule.difference in
    let m = c.meeting-across.result in
    let is = met c.args.side c.args.option d m (search rules) c.meeting-across.ensures in
    let same : to_z w16 (of_z w16 m) ≡ meeting_on c.args.side c.args.option d = omega (arith, ints) in
    rw (c.in-AtMost.is, c.at_most.ensures b, same, at_most c.args.side c.args.option b d)

pub returns-in-Apart : goal.returns-in-Apart
returns-in-Apart c b =
    let d = c.args.rule.difference in
    let small : SFits w8 d = search rules in
    let number : c.from-number.result ≡ d = c.from-number.ensures ∙ to_z-of_z w8 d small in
    let under : to_z w16 (of_z w16 (to_z w16 (of_z w16 c.from-own.result) -ℤ to_z w16 (of_z w16 c.from-number.result))) ≡ pos c.args.option -ℤ d = omega (arith, ints) in
    let over : to_z w16 (of_z w16 (to_z w16 (of_z w16 c.from-own.result) +ℤ to_z w16 (of_z w16 c.from-number.result))) ≡ pos c.args.option +ℤ d = omega (arith, ints) in
    rw (c.in-Apart.is, c.union-in-Apart.ensures, has_or, c.up_to-in-Apart.ensures b, c.starting_at-in-Apart.ensures b, ← and-or_distrib_left, under, over, apart c.args.side c.args.option b d)
