-- The rules of a pair book, as it is asked for them.
use Rattle.std.proofs.Common.{◌≡◌, ℕ, zero, suc, ◌-◌, ◌*◌, ◌/◌, ◌^◌, ◌<◌, ◌≤◌, Bool, ◌&&◌, T, ltb, List, get_or, Some, None, Option, sym, refl, ap, ◌∙◌, subst, ⊎_elim, suc-mul, arith, ltb→lt, lt→ltb}
use Rattle.std.proofs.Math.Bool.{and_comm}
use Rattle.std.proofs.lemmas.Bool.{cases_Bool}
use Rattle.std.specs.Option.{option_map_or}
use Rattle.network.specs.declared.rules.Ends.{Ends}
use Rattle.network.specs.Network.{option_limit, field_limit, no_field, has, no_rule}
use Rattle.network.specs.declared.rules.Side.{Side}
use Rattle.network.specs.declared.rules.Side.TheVariants.{Left, Right}
use Rattle.network.proofs.Truth.{yes_T, T_yes, and_T, T_left, T_right}
use Rattle.network.proofs.Bits.{has_below}
use Rattle.books.specs.Reads.{asked, permits, permits_on, Found}
use Rattle.books.specs.Pairs.{word_at, pairs_of, pair_rule, rule_between, pair_rules, triangle, pair_at, PairEnds, both_orders}
use Rattle.books.proofs.Asked.{asked_is, asked_past, allows_on, between_fields, permits_at}
use Rattle.books.proofs.Pairing.{rule_of, rule_is, rules_length, triangle_few, triangle_twice, ends_order, ends_below}
use Rattle.books.proofs.Found.{found_like}

-- half of a square less one side
pub half_square : (n : ℕ) → n * (n - 1) / 2 ≡ triangle n
half_square zero = refl
half_square (suc n) =
    let less : suc n - 1 ≡ n = omega arith in
    let twice = triangle_twice n in
    ap (λ m. suc n * m / 2) less ∙ omega (arith, suc-mul n n)

-- a pair word that can be read is the one at its place
pub pairs_at : (n : ℕ) (words : List ℕ) (x a y b : ℕ) → x < n → a < option_limit → y < field_limit → pairs_of n words x a y b ≡ has (get_or words (word_at x a y) 0) b
pairs_at n words x a y b h k l =
    ap (λ g. g && has (get_or words (word_at x a y) 0) b) (yes_T (ltb x n && (ltb a option_limit && ltb y field_limit)) (and_T _ _ (lt→ltb x n h) (and_T _ _ (lt→ltb a option_limit k) (lt→ltb y field_limit l))))

module _ (n : ℕ) (few : n ≤ field_limit) (words : List ℕ) where
  pub pair_none : (r : ℕ) → triangle n ≤ r → asked (pair_rules n (pairs_of n words)) r ≡ no_rule
  pair_none r h = asked_past (pair_rules n (pairs_of n words)) r (let l = rules_length n (pairs_of n words) in omega arith)

  module _ (r x y : ℕ) (below : r < triangle n) (ends : pair_at n r ≡ (x, y)) where
    pub pair_asked : asked (pair_rules n (pairs_of n words)) r ≡ pair_rule (pairs_of n words) x y
    pair_asked =
        let most = triangle_few n few in
        let long = rules_length n (pairs_of n words) in
        asked_is (pair_rules n (pairs_of n words)) r (omega arith) ∙ rule_is n (pairs_of n words) r (omega arith) ∙ ap (rule_of (pairs_of n words)) ends

    order : x < y
    order = subst (λ (e : ℕ × ℕ). e.0 < e.1) ends (ends_order n r below)

    last : y < n
    last = subst (λ (e : ℕ × ℕ). e.1 < n) ends (ends_below n r below)

    fields : T (between_fields (pair_rule (pairs_of n words) x y))
    fields = let o = order in let l = last in and_T (ltb x no_field) (ltb y no_field) (lt→ltb x no_field (omega arith)) (lt→ltb y no_field (omega arith))

    both_left : (a b : ℕ) → a < option_limit → b < option_limit → both_orders words x a y b ≡ allows_on (pair_rule (pairs_of n words) x y) Left a b
    both_left a b h k =
        let o = order in let l = last in
        ap (λ s. s && has (get_or words (word_at y b x) 0) a) (sym (pairs_at n words x a y b (omega arith) h (omega arith)))
        ∙ ap (λ s. pairs_of n words x a y b && s) (sym (pairs_at n words y b x a l k (omega arith)))

    both_right : (a b : ℕ) → a < option_limit → b < option_limit → both_orders words y a x b ≡ allows_on (pair_rule (pairs_of n words) x y) Right a b
    both_right a b h k = and_comm (has (get_or words (word_at y a x) 0) b) (has (get_or words (word_at x b y) 0) a) ∙ both_left b a k h

    -- allowed pairs
    pub pair_allows : (a b : ℕ) → ((ltb a option_limit && ltb b option_limit) && both_orders words x a y b) ≡ permits (pair_rule (pairs_of n words) x y) a b
    pair_allows a b =
        ⊎_elim
        (λ e. let t = T_yes (ltb a option_limit && ltb b option_limit) e in
        let h = ltb→lt a option_limit (T_left (ltb a option_limit) (ltb b option_limit) t) in
        let k = ltb→lt b option_limit (T_right (ltb a option_limit) (ltb b option_limit) t) in
        ap (λ s. s && both_orders words x a y b) e ∙ both_left a b h k ∙ permits_at (pair_rule (pairs_of n words) x y) Left a b fields h k)
        (λ e. ap (λ s. s && both_orders words x a y b) e
        ∙ sym (ap (λ s. s && ((ltb a option_limit && ltb b option_limit) && (pair_rule (pairs_of n words) x y).allows a b)) (yes_T (between_fields (pair_rule (pairs_of n words) x y)) fields)
        ∙ ap (λ s. s && (pair_rule (pairs_of n words) x y).allows a b) e))
        (cases_Bool (ltb a option_limit && ltb b option_limit))

    -- partners from either side
    module _ (side : Side) (a w : ℕ) (small : w < 2 ^ option_limit) (option : a < option_limit) where
      found_by : (passes : ℕ → Bool) → ((b : ℕ) → b < option_limit → passes b ≡ allows_on (pair_rule (pairs_of n words) x y) side a b) → (answer : Option ℕ) → Found passes w answer
          → Found (permits_on (pair_rule (pairs_of n words) x y) side a) w answer
      found_by passes same answer found =
          found_like passes (permits_on (pair_rule (pairs_of n words) x y) side a) w
          (λ b t. let l = has_below option_limit w b small t in same b l ∙ permits_at (pair_rule (pairs_of n words) x y) side a b fields option l)
          answer found

      pub pair_from_left : side ≡ Left → (answer : Option ℕ) → Found (both_orders words x a y) w answer → Found (permits_on (pair_rule (pairs_of n words) x y) side a) w answer
      pair_from_left e =
          found_by (both_orders words x a y) (λ b l. both_left a b option l ∙ ap (λ s. allows_on (pair_rule (pairs_of n words) x y) s a b) (sym e))

      pub pair_from_right : side ≡ Right → (answer : Option ℕ) → Found (both_orders words y a x) w answer → Found (permits_on (pair_rule (pairs_of n words) x y) side a) w answer
      pair_from_right e =
          found_by (both_orders words y a x) (λ b l. both_right a b option l ∙ ap (λ s. allows_on (pair_rule (pairs_of n words) x y) s a b) (sym e))

  -- the rule of the ends that were found, if there is such a rule
  pub pair_between : (r : ℕ) (ends : Option Ends) → PairEnds n r ends → asked (pair_rules n (pairs_of n words)) r ≡ option_map_or (rule_between (pairs_of n words)) ends no_rule
  pair_between r (Some ends) p = pair_asked r ends.left ends.right p.0 p.1
  pair_between r None p = pair_none r p
