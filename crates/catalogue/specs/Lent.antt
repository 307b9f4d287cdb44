-- What a vector in lent memory holds.
use Rattle.std.specs.Prelude.{ℕ, List, [], ◌∷◌, ◌++◌, take, drop, replicate, slice_set}
use Rattle.catalogue.specs.declared.lent.LentVec.{LentVec}

-- what was entered into lent places, and the places behind it that are free
pub record Places (X : Type 0) : Type 0 where
  pub entered : List X
  pub free : List X

abbrev pub places : {X : Type 0} → LentVec X → Places X
places v = record { entered = take v.filled v.places.now; free = drop v.filled v.places.now }

-- a value in the first free place
abbrev pub added : {X : Type 0} → Places X → X → Places X
added p x = record { entered = p.entered ++ x ∷ []; free = drop 1 p.free }

-- a value in each of the first n free places
abbrev pub extended : {X : Type 0} → Places X → ℕ → X → Places X
extended p n x = record { entered = p.entered ++ replicate n x; free = drop n p.free }

-- another value at a place that is entered
abbrev pub replaced : {X : Type 0} → Places X → ℕ → X → Places X
replaced p i x = record { entered = slice_set p.entered i x; free = p.free }
