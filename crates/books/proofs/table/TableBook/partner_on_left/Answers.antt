use Rattle.std.proofs.Common.{ℕ, Bool, rules}
use Rattle.network.specs.Network.{has, words}
use Rattle.books.specs.Table.{row_of}
use Rattle.books.proofs.Found.{found_first}
use Rattle.books.proofs.table.TableBook.partner_on_left.Goals as goal

pub returns : goal.returns
returns c =
    let passes : ℕ → Bool = λ left. has (row_of (words c.args.self.now.rows.now) c.args.rule left) c.args.right in
    found_first passes c.args.set.word c.find.result _ _ c.find.ensures (λ b p. search rules) (λ b p. search rules)
