use Rattle.tightening.proofs.Probing.{rows_are_exact}
use Rattle.tightening.proofs.rows_are_exact.Goals as goal

pub returns : goal.returns
returns c = rows_are_exact
