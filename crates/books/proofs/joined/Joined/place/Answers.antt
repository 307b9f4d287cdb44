use Rattle.std.proofs.Common.{◌≡◌, ◌-◌, ◌++◌, length, sym, ap, ◌∙◌, arith}
use Rattle.books.specs.Reads.{asked}
use Rattle.books.proofs.Asked.{asked_high, asked_first, asked_second}
use Rattle.books.proofs.joined.Joined.place.Goals as goal

pub returns-then-rule-ge-RULES : goal.returns-then-rule-ge-RULES
returns-then-rule-ge-RULES g c =
    asked_high (g.F.Book.meaning c.args.self.now.first ++ g.S.Book.meaning c.args.self.now.second) c.args.rule (omega arith)

pub returns-then-rule-before : goal.returns-then-rule-before
returns-then-rule-before g c =
    asked_first (g.F.Book.meaning c.args.self.now.first) (g.S.Book.meaning c.args.self.now.second) c.args.rule (omega (arith, c.count-before.ensures))

pub returns : goal.returns
returns g c =
    let xs = g.F.Book.meaning c.args.self.now.first in
    let ys = g.S.Book.meaning c.args.self.now.second in
    let before : c.count-before.result ≡ length xs = omega (arith, c.count-before.ensures) in
    asked_second xs ys c.args.rule (omega arith) (omega arith) ∙ ap (λ n. asked ys (c.args.rule - n)) (sym before)
