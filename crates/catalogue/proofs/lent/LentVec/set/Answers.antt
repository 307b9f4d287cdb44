use Rattle.std.proofs.Common.{arith}
use Rattle.std.proofs.lemmas.List.{drop-set-lt}
use Rattle.catalogue.proofs.Fronts.{take_set, same_places}
use Rattle.catalogue.proofs.lent.LentVec.set.Goals as goal

pub returns-clause-after : goal.returns-clause-after
returns-clause-after g c =
    let v = c.args.self.now in
    same_places (take_set v.places.now v.filled c.args.at c.args.value (omega arith))
    (drop-set-lt v.filled v.places.now c.args.at c.args.value (omega arith))
