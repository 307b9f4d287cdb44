use Rattle.std.proofs.Common.{◌≡◌, ℕ, ◌+◌, get_or, sym, ap, ◌∙◌, subst, arith}
use Rattle.network.specs.Network.{has, part, words}
use Rattle.network.proofs.Words.{word_of}
use Rattle.tightening.specs.Rows.{pairs_in, less_below, Leaves}
use Rattle.tightening.proofs.TakingAway.{LostBelow, row_own, row_more, row_end, below_two_way}
use Rattle.tightening.proofs.rows.Row.keep.Goals.{then-other-from, else-other-from}
use Rattle.tightening.proofs.rows.Row.keep.Goals as goal

pub keep_toward-requires-clause-pairs : goal.keep_toward-requires-clause-pairs
keep_toward-requires-clause-pairs c =
    let own = c.args.self.now.own in
    below_two_way (pairs_in own (words c.args.self.now.words.now)) own.field own.option _ c.loop-other.other _ c.args.self.now.two_way c.loop-other.invariant.0.pairs

pub loop-other-preserved : goal.loop-other-preserved
loop-other-preserved c =
    let own = c.args.self.now.own in
    let first = words c.args.self.now.words.now in
    let now = words c.loop-other.words in
    let sets = c.args.sets.now in
    let k = c.loop-other.other in
    let l = part (words sets) in
    let inv = c.loop-other.invariant in
    elim c.if-other-from.branch [
      | then-other-from w ↦
          let mask = (get_or sets k (record { word = 0 })).word in
          let is : (b : ℕ) → has mask b ≡ l k b = λ b. ap (λ m. has m b) (sym (word_of sets k (record { word = 0 }) c.loop-other-test.true)) in
          subst (λ ps. Leaves own.fields first (words ps) (less_below (pairs_in own first) own.field own.option l (k + 1)) × LostBelow own first l (k + 1) (words ps)) (sym w.words-is)
          (row_more own first now l k c.args.self.now.two_way inv.0 inv.1 (words w.keep_toward.new.words) mask is (λ e. w.if-other-from.true (sym e ∙ sym c.from.ensures)) w.keep_toward.ensures.leaves w.keep_toward.ensures.lost)
      | else-other-from w ↦
          subst (λ ps. Leaves own.fields first (words ps) (less_below (pairs_in own first) own.field own.option l (k + 1)) × LostBelow own first l (k + 1) (words ps)) (sym w.words-is)
          (row_own own first now l k c.args.self.now.two_way inv.0 inv.1 (w.if-other-from.false ∙ c.from.ensures))
    ]

pub invariant_of-self-clause-two_way : goal.invariant_of-self-clause-two_way
invariant_of-self-clause-two_way c =
    let own = c.args.self.now.own in
    below_two_way (pairs_in own (words c.args.self.now.words.now)) own.field own.option _ c.loop-other.other _ c.args.self.now.two_way c.loop-other.invariant.0.pairs

pub returns-clause-leaves : goal.returns-clause-leaves
returns-clause-leaves c =
    let own = c.args.self.now.own in
    let first = words c.args.self.now.words.now in
    let now = words c.loop-other.words in
    let l = part (words c.args.sets.now) in
    let k : c.loop-other.other ≡ own.fields = omega (arith, c.loop-other-test.false, c.loop-other.auto.other-end, c.requires) in
    row_end own first now l c.args.self.now.two_way (subst (λ k. Leaves own.fields first now (less_below (pairs_in own first) own.field own.option l k)) k c.loop-other.invariant.0)
