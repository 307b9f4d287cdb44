use Rattle.std.proofs.Common.{arith}
use Rattle.network.specs.Network.{words}
use Rattle.books.proofs.Tables.{table_length}
use Rattle.books.proofs.table.TableBookBook.count.Goals as goal

pub returns : goal.returns
returns c = omega (arith, table_length c.args.self.now.ends.now (words c.args.self.now.rows.now))
