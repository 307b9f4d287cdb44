-- A catalogue in preparation, read as what it holds.
use Rattle.catalogue.specs.Lent.{places}
use Rattle.catalogue.specs.Content.{Content}
use Rattle.catalogue.specs.declared.preparation.Preparation.{Preparation}

abbrev pub content : Preparation → Content
content p = record { sets = places p.sets; ends = places p.ends; rows = places p.rows; formulas = places p.formulas }
