-- The rules of a table book.
use Rattle.std.proofs.Common.{◌≡◌, ℕ, zero, suc, ◌+◌, ◌^◌, ◌<◌, Bool, true, false, ◌&&◌, T, ltb, List, [], ◌∷◌, length, slice_get, Option, sym, refl, ap, ◌∙◌, subst, arith, lt→ltb}
use Rattle.std.specs.Option.{option_map_or}
use lib.Bits.{bit_and}
use Rattle.network.specs.Network.{option_limit, has, rule_at, no_rule}
use Rattle.network.specs.Sets.{Lowest}
use Rattle.network.specs.declared.rules.Side.{Side}
use Rattle.network.specs.declared.rules.Side.TheVariants.{Left, Right}
use Rattle.network.proofs.Bits.{has_and, has_below}
use Rattle.network.specs.declared.rules.Ends.{Ends}
use Rattle.books.specs.Reads.{asked, listed, permits_on, Found}
use Rattle.books.specs.Table.{row_of, table_rule, table_rules_from, table_rules}
use Rattle.books.proofs.Asked.{asked_made, between_fields, permits_at, permits_in}
use Rattle.books.proofs.Found.{found_lowest, found_like}

from_length : (first : ℕ) (ends : List Ends) (rows : List ℕ) → length (table_rules_from first ends rows) ≡ length ends
from_length first [] rows = refl
from_length first (e ∷ ends) rows = ap suc (from_length (suc first) ends rows)

pub table_length : (ends : List Ends) (rows : List ℕ) → length (table_rules ends rows) ≡ length ends
table_length ends rows = from_length 0 ends rows

made_from : (first : ℕ) (ends : List Ends) (rows : List ℕ) (k : ℕ) → rule_at (table_rules_from first ends rows) k ≡ option_map_or (table_rule rows (first + k)) (slice_get ends k) no_rule
made_from first [] rows k = refl
made_from first (e ∷ ends) rows zero = let same : first ≡ first + 0 = omega arith in ap (λ r. table_rule rows r e) same
made_from first (e ∷ ends) rows (suc k) =
    let same : suc first + k ≡ first + suc k = omega arith in
    made_from (suc first) ends rows k ∙ ap (λ r. option_map_or (table_rule rows r) (slice_get ends k) no_rule) same

pub asked_table : (ends : List Ends) (rows : List ℕ) (r : ℕ) → asked (table_rules ends rows) r ≡ option_map_or (table_rule rows r) (listed ends r) no_rule
asked_table ends rows r =
    let same : 0 + r ≡ r = omega arith in
    asked_made (table_rule rows r) (table_rules ends rows) ends r (made_from 0 ends rows r ∙ ap (λ k. option_map_or (table_rule rows k) (slice_get ends r) no_rule) same)

-- the test of the left option counts once
pub once : (f x y h : Bool) → (f && ((x && y) && h)) ≡ (f && ((x && y) && (x && h)))
once true true y h = refl
once true false y h = refl
once false x y h = refl

true_and : (x y : Bool) → T x → (x && y) ≡ y
true_and true y t = refl
true_and false y t = absurd t

-- partners from either side, under a rule between fields and for an option that a field can have
module _ (rows : List ℕ) (r : ℕ) (ends : Ends) (side : Side) (a w : ℕ) (small : w < 2 ^ option_limit) (fields : T (between_fields (table_rule rows r ends))) (option : a < option_limit) where
  pub from_left : side ≡ Left → (chosen : ℕ) → chosen ≡ bit_and w (row_of rows r a) → (answer : Option ℕ) → Lowest chosen answer → Found (permits_on (table_rule rows r ends) side a) w answer
  from_left e chosen both answer lowest =
      subst (λ s. Found (permits_on (table_rule rows r ends) s a) w answer) (sym e)
      (found_lowest (permits_on (table_rule rows r ends) Left a) w chosen
      (λ b. ap (λ v. has v b) both ∙ has_and w (row_of rows r a) b
      ∙ ap (λ x. has w b && x) (sym (true_and (ltb a option_limit) (has (row_of rows r a) b) (lt→ltb a option_limit option)))
      ∙ permits_in (table_rule rows r ends) Left a b w small fields option)
      answer lowest)

  pub from_right : side ≡ Right → (answer : Option ℕ) → Found (λ left. has (row_of rows r left) a) w answer → Found (permits_on (table_rule rows r ends) side a) w answer
  from_right e answer found =
      subst (λ s. Found (permits_on (table_rule rows r ends) s a) w answer) (sym e)
      (found_like (λ left. has (row_of rows r left) a) (permits_on (table_rule rows r ends) Right a) w
      (λ b t. let l = has_below option_limit w b small t in
      sym (true_and (ltb b option_limit) (has (row_of rows r b) a) (lt→ltb b option_limit l))
      ∙ permits_at (table_rule rows r ends) Right a b fields option l)
      answer found)
