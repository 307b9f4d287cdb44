-- The pair rules: how many there are, the fields of each, and the place of each pair of fields.
use Rattle.std.proofs.Common.{◌≡◌, ℕ, zero, suc, ◌+◌, ◌-◌, ◌*◌, ◌<◌, ◌≤◌, false, ◌&&◌, ltb, length, sym, refl, ap, ◌∙◌, subst, ⊎_elim, suc-mul, mul-suc, arith}
use Rattle.std.proofs.lemmas.List.{length-append, get_or_append_left, get_or-append_right, get_or_past}
use Rattle.std.proofs.lemmas.Bool.{lt-ltb, le-ltb, cases_lt, cond-true, cond-false}
use Rattle.network.specs.Network.{field_limit, no_field, Rule, rule_at, no_rule}
use Rattle.books.specs.Pairs.{Pairs, pair_rule, rules_from, rules_of, pair_rules, triangle, pair_from, pair_at, rules_before, place}

from_length : (q : Pairs) (x y more : ℕ) → length (rules_from q x y more) ≡ more
from_length q x y zero = refl
from_length q x y (suc more) = let r = from_length q x (y + 1) more in omega arith

of_length : (q : Pairs) (x more : ℕ) → length (rules_of q x more) ≡ triangle more
of_length q x zero = refl
of_length q x (suc more) =
    let r = of_length q (x + 1) more in
    let s = from_length q x (x + 1) more in
    omega (arith, length-append (rules_from q x (x + 1) more) (rules_of q (x + 1) more))

pub rules_length : (n : ℕ) (q : Pairs) → length (pair_rules n q) ≡ triangle n
rules_length n q = of_length q 0 n

pub triangle_twice : (n : ℕ) → 2 * triangle n + n ≡ n * n
triangle_twice zero = refl
triangle_twice (suc n) = let r = triangle_twice n in omega (arith, suc-mul n (suc n), mul-suc n n)

pub triangle_grows : (m n : ℕ) → m ≤ n → triangle m ≤ triangle n
triangle_grows zero n h = omega arith
triangle_grows (suc m) zero h = absurd (omega arith)
triangle_grows (suc m) (suc n) h = let r = triangle_grows m n (omega arith) in omega arith

pub triangle_few : (n : ℕ) → n ≤ field_limit → triangle n ≤ 120
triangle_few n h = triangle_grows n field_limit h

from_at : (q : Pairs) (x y more r : ℕ) → r < more → rule_at (rules_from q x y more) r ≡ pair_rule q x (y + r)
from_at q x y zero r h = absurd (omega arith)
from_at q x y (suc more) zero h = let e : y ≡ y + 0 = omega arith in ap (pair_rule q x) e
from_at q x y (suc more) (suc r) h =
    let e : y + 1 + r ≡ y + suc r = omega arith in
    from_at q x (y + 1) more r (omega arith) ∙ ap (pair_rule q x) e

-- the rule of a pair of fields
abbrev pub rule_of : Pairs → ℕ × ℕ → Rule
rule_of q e = pair_rule q e.0 e.1

-- a rule of the first field, and a rule of the others
pub pair_first : (x more r : ℕ) → r < more → pair_from x (suc more) r ≡ (x, x + 1 + r)
pair_first x more r l = cond-true (ltb r more) (x, x + 1 + r) (pair_from (x + 1) more (r - more)) (lt-ltb r more l)

pub pair_later : (x more r : ℕ) → more ≤ r → pair_from x (suc more) r ≡ pair_from (x + 1) more (r - more)
pair_later x more r l = cond-false (ltb r more) (x, x + 1 + r) (pair_from (x + 1) more (r - more)) (le-ltb r more l)

of_at : (q : Pairs) (x more r : ℕ) → r < triangle more → rule_at (rules_of q x more) r ≡ rule_of q (pair_from x more r)
of_at q x zero r h = absurd (omega arith)
of_at q x (suc more) r h =
    let long = from_length q x (x + 1) more in
    ⊎_elim
    (λ l. get_or_append_left (rules_from q x (x + 1) more) (rules_of q (x + 1) more) no_rule r (omega arith)
    ∙ from_at q x (x + 1) more r l
    ∙ ap (rule_of q) (sym (pair_first x more r l)))
    (λ l. get_or-append_right (rules_from q x (x + 1) more) (rules_of q (x + 1) more) more r no_rule long l
    ∙ of_at q (x + 1) more (r - more) (omega arith)
    ∙ ap (rule_of q) (sym (pair_later x more r l)))
    (cases_lt r more)

pub rule_is : (n : ℕ) (q : Pairs) (r : ℕ) → r < length (pair_rules n q) → rule_at (pair_rules n q) r ≡ rule_of q (pair_at n r)
rule_is n q r h = of_at q 0 n r (let l = rules_length n q in omega arith)

-- the fields of a rule
record Ends (x more : ℕ) (e : ℕ × ℕ) : Type 0 where
  low : x ≤ e.0
  order : e.0 < e.1
  high : e.1 < x + more

ends_of : (x more r : ℕ) → r < triangle more → Ends x more (pair_from x more r)
ends_of x zero r h = absurd (omega arith)
ends_of x (suc more) r h =
    ⊎_elim
    (λ l. subst (Ends x (suc more)) (sym (pair_first x more r l)) (record { low = omega arith; order = omega arith; high = omega arith }))
    (λ l. let e = ends_of (x + 1) more (r - more) (omega arith) in
    subst (Ends x (suc more)) (sym (pair_later x more r l)) (record { low = omega arith; order = omega arith; high = omega arith }))
    (cases_lt r more)

pub ends_order : (n r : ℕ) → r < triangle n → (pair_at n r).0 < (pair_at n r).1
ends_order n r h = (ends_of 0 n r h).order

pub ends_below : (n r : ℕ) → r < triangle n → (pair_at n r).1 < n
ends_below n r h = let e = (ends_of 0 n r h).high in omega arith

pair_past : (x more r : ℕ) → triangle more ≤ r → pair_from x more r ≡ (no_field, no_field)
pair_past x zero r h = refl
pair_past x (suc more) r h = pair_later x more r (omega arith) ∙ pair_past (x + 1) more (r - more) (omega arith)

-- the ends of each rule, and 255 past the last
ends_at : (n : ℕ) (q : Pairs) (r : ℕ) → ((rule_at (pair_rules n q) r).left ≡ (pair_at n r).0) × ((rule_at (pair_rules n q) r).right ≡ (pair_at n r).1)
ends_at n q r =
    ⊎_elim
    (λ l. let e = rule_is n q r l in (ap (λ (u : Rule). u.left) e, ap (λ (u : Rule). u.right) e))
    (λ l. let e = get_or_past (pair_rules n q) r no_rule l in
    let p = pair_past 0 n r (let k = rules_length n q in omega arith) in
    (ap (λ (u : Rule). u.left) e ∙ ap (λ (x : ℕ × ℕ). x.0) (sym p), ap (λ (u : Rule). u.right) e ∙ ap (λ (x : ℕ × ℕ). x.1) (sym p)))
    (cases_lt r (length (pair_rules n q)))

pub left_at : (n : ℕ) (q : Pairs) (r : ℕ) → (rule_at (pair_rules n q) r).left ≡ (pair_at n r).0
left_at n q r = (ends_at n q r).0

pub right_at : (n : ℕ) (q : Pairs) (r : ℕ) → (rule_at (pair_rules n q) r).right ≡ (pair_at n r).1
right_at n q r = (ends_at n q r).1

-- past the last rule nothing is allowed; before it, the pairs kept in both orders
pub allows_past : (n : ℕ) (q : Pairs) (r a b : ℕ) → triangle n ≤ r → (rule_at (pair_rules n q) r).allows a b ≡ false
allows_past n q r a b l =
    ap (λ (u : Rule). u.allows a b) (get_or_past (pair_rules n q) r no_rule (let k = rules_length n q in omega arith))

pub allows_at : (n : ℕ) (q : Pairs) (r a b : ℕ) → r < triangle n
    → (rule_at (pair_rules n q) r).allows a b ≡ (q (pair_at n r).0 a (pair_at n r).1 b && q (pair_at n r).1 b (pair_at n r).0 a)
allows_at n q r a b l = ap (λ (u : Rule). u.allows a b) (rule_is n q r (let k = rules_length n q in omega arith))

-- rule r of the `more` fields from x on is that of the fields u and y
record Found (x more r u y : ℕ) : Type 0 where
  below : r < triangle more
  ends : pair_from x more r ≡ (u, y)

found_first : (x more r u y : ℕ) → r < more → x ≡ u → x + 1 + r ≡ y → Found x (suc more) r u y
found_first x more r u y l e f = record { below = omega arith; ends = pair_first x more r l ∙ ap (λ z. (z, x + 1 + r)) e ∙ ap (λ z. (u, z)) f }

found_later : (x more r s u y : ℕ) → r ≡ more + s → Found (x + 1) more s u y → Found x (suc more) r u y
found_later x more r s u y e i =
    let less : r - more ≡ s = omega arith in
    record { below = let l = i.below in omega arith; ends = pair_later x more r (omega arith) ∙ ap (pair_from (x + 1) more) less ∙ i.ends }

-- the place of x + k and y, counted among the rules of the `more` fields from x on
place_in : (more x k u y : ℕ) → x + k ≡ u → u < y → y < x + more → Found x more (rules_before more k + (y - u - 1)) u y
place_in zero x k u y e h l = absurd (omega arith)
place_in (suc more) x zero u y e h l = found_first x more (0 + (y - u - 1)) u y (omega arith) (omega arith) (omega arith)
place_in (suc more) x (suc k) u y e h l =
    found_later x more (more + rules_before more k + (y - u - 1)) (rules_before more k + (y - u - 1)) u y (omega arith) (place_in more (x + 1) k u y (omega arith) h (omega arith))

pub place_below : (n x y : ℕ) → x < y → y < n → place n x y < triangle n
place_below n x y h l = (place_in n 0 x x y (omega arith) h (omega arith)).below

pub place_ends : (n x y : ℕ) → x < y → y < n → pair_at n (place n x y) ≡ (x, y)
place_ends n x y h l = (place_in n 0 x x y (omega arith) h (omega arith)).ends

-- the place of a rule's fields is its number
at_place : (x more r : ℕ) → r < triangle more → rules_before more ((pair_from x more r).0 - x) + ((pair_from x more r).1 - (pair_from x more r).0 - 1) ≡ r
at_place x zero r h = absurd (omega arith)
at_place x (suc more) r h =
    ⊎_elim
    (λ l. subst (λ (e : ℕ × ℕ). rules_before (suc more) (e.0 - x) + (e.1 - e.0 - 1) ≡ r) (sym (pair_first x more r l))
    (let none : x - x ≡ 0 = omega arith in subst (λ k. rules_before (suc more) k + (x + 1 + r - x - 1) ≡ r) (sym none) (omega arith)))
    (λ l. let i = at_place (x + 1) more (r - more) (omega arith) in
    let u = (pair_from (x + 1) more (r - more)).0 in
    let y = (pair_from (x + 1) more (r - more)).1 in
    let low : x + 1 ≤ u = (ends_of (x + 1) more (r - more) (omega arith)).low in
    let one : u - x ≡ suc (u - (x + 1)) = omega arith in
    subst (λ (e : ℕ × ℕ). rules_before (suc more) (e.0 - x) + (e.1 - e.0 - 1) ≡ r) (sym (pair_later x more r l))
    (subst (λ k. rules_before (suc more) k + (y - u - 1) ≡ r) (sym one) (omega arith)))
    (cases_lt r more)

pub place_of_ends : (n r : ℕ) → r < triangle n → place n (pair_at n r).0 (pair_at n r).1 ≡ r
place_of_ends n r h =
    let u = (pair_at n r).0 in
    let e : u - 0 ≡ u = omega arith in subst (λ k. rules_before n k + ((pair_at n r).1 - u - 1) ≡ r) e (at_place 0 n r h)

-- the closed form of the count of rules before those of x
pub rules_before_twice : (n x : ℕ) → x ≤ n → 2 * rules_before n x + x * suc x ≡ 2 * (n * x)
rules_before_twice zero zero h = refl
rules_before_twice zero (suc x) h = absurd (omega arith)
rules_before_twice (suc n) zero h = omega arith
rules_before_twice (suc n) (suc x) h =
    let r = rules_before_twice n x (omega arith) in
    omega (arith, suc-mul n (suc x), mul-suc n x, suc-mul x (suc (suc x)), mul-suc x (suc x))
