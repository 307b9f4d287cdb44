-- A settle that is wiped out leaves the draft as it was.
use Rattle.std.specs.Prelude.{◌≡◌, ℕ, List, vec_items, vec_len, vec_capacity, Vec}
use Rattle.propagation.specs.declared.record.Strike.{Strike}

pub record Unsettled {Z : Type 0} (sets : List ℕ) (strikes : Vec Strike Z) (sets' : List ℕ) (strikes' : Vec Strike Z) : Type 0 where
  pub standing : sets' ≡ sets
  pub items : vec_items strikes' ≡ vec_items strikes
  pub len : vec_len strikes' ≡ vec_len strikes
  pub capacity : vec_capacity strikes' ≡ vec_capacity strikes
