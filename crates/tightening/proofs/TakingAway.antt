-- Taking pairs away, word by word.
use Rattle.std.proofs.Common.{◌≡◌, ℕ, zero, suc, ◌+◌, ◌-◌, ◌*◌, ◌^◌, ◌<◌, ◌≤◌, Bool, true, false, cond, not, ◌&&◌, ◌||◌, T, eqb, ltb, ◌≢◌, ◌⊎◌, List, length, get_or, set, sym, refl, ap, ◌∙◌, subst, inl, inr, ⊎_elim, pow-suc, arith, eqb→eq}
use Rattle.std.proofs.lemmas.Grind.{common_steps}
use lib.Bits.{bit_and}
use Rattle.std.proofs.Math.Dec.{not_T}
use lib.Count.{ones}
use Rattle.std.proofs.lemmas.List.{get_or-set_other, length-set}
use Rattle.std.proofs.lemmas.Bool.{cases_eq, eq-eqb}
use Rattle.network.specs.Network.{has, Part}
use Rattle.network.specs.Sets.{set_without}
use Rattle.network.proofs.Truth.{T_yes, and_T, T_left, T_right, same_test}
use Rattle.network.proofs.Bits.{has_less, has_and, ones_and}
use Rattle.network.proofs.Masks.{has_without, ones_without}
use Rattle.books.specs.Pairs.{Pairs, word_at, pairs_of}
use Rattle.propagation.specs.Strikes.{options}
use Rattle.tightening.specs.Rows.{InTable, TwoWay, pairs_in, less_back, less_toward, less_below, AllPass, Leaves, word_to}
use Rattle.tightening.specs.Tightening.{less_pairs}
use Rattle.tightening.specs.declared.rows.Choice.{Choice}
use Rattle.tightening.proofs.PairWords.{pairs_at, pairs_range, pairs_written, word_below, word_apart}
use Rattle.propagation.proofs.Strikes.{options_set}

pub cond_in : (c l : Bool) → (T c → T l) → T (cond c l true)
cond_in true l f = f tt
cond_in false l f = tt

pub cond_out : (c l : Bool) → T (cond c l true) → T c → T l
cond_out true l t s = t
cond_out false l t s = absurd s

pub or_left : (a b : Bool) → T a → T (a || b)
or_left true b t = tt
or_left false b t = absurd t

pub or_right : (a b : Bool) → T b → T (a || b)
or_right true b t = tt
or_right false b t = t

pub or_cases : (a b : Bool) → T (a || b) → T a ⊎ T b
or_cases true b t = inl tt
or_cases false b t = inr t

-- three numbers are those of a place
pub these : (u x b a v y : ℕ) → u ≡ x → b ≡ a → v ≡ y → T (eqb u x && (eqb b a && eqb v y))
these u x b a v y e f g = grind (arith, common_steps)

pub record Are (u x b a v y : ℕ) : Type 0 where
  pub first : u ≡ x
  pub option : b ≡ a
  pub second : v ≡ y

pub are : (u x b a v y : ℕ) → T (eqb u x && (eqb b a && eqb v y)) → Are u x b a v y
are u x b a v y t = grind (arith, common_steps)

-- a pair under other names of its numbers
moved : (q : Pairs) (u x b a v y c d : ℕ) → u ≡ x → b ≡ a → v ≡ y → c ≡ d → T (q u b v c) → T (q x a y d)
moved q u x b a v y c d e f g h t =
    subst (λ n. T (q n a y d)) e (subst (λ n. T (q u n y d)) f (subst (λ n. T (q u b n d)) g (subst (λ n. T (q u b v n)) h t)))

module _ (row : Choice) (words : List ℕ) (at : InTable row words) (y : ℕ) (inside : y < row.fields) where
  abbrev n : ℕ
  n = row.fields

  abbrev x : ℕ
  x = row.field

  abbrev a : ℕ
  a = row.option

  abbrev q : Pairs
  q = pairs_in row words

  pub below_16 : y < 16
  below_16 = omega (arith, at.few, inside)

  -- the row's word tells its pairs
  pub told : (b : ℕ) → T (q x a y b) → T (has (word_to row words y) b)
  told b t = subst T (pairs_at n words x a y b at.field at.option below_16) t

  pub telling : (b : ℕ) → T (has (word_to row words y) b) → T (q x a y b)
  telling b t = subst T (sym (pairs_at n words x a y b at.field at.option below_16)) t

  pub place_inside : word_at x a y < n * 512
  place_inside = word_below n x a y at.field at.option below_16

  -- what it is paired with are options
  pub partner_option : TwoWay q → (b : ℕ) → T (has (word_to row words y) b) → b < 32
  partner_option two b t = (pairs_range n words y b x a (two.mirrored x a y b (telling b t))).option

  -- at first nothing is taken away
  pub back_start : (keep : ℕ → Bool) → TwoWay q → Leaves n words words (less_back q x a y (λ b. keep b || has (word_to row words y) b))
  back_start keep two = record {
    pairs = λ u b v c.
        let g = eqb v x && (eqb c a && eqb u y) in
        same_test (q u b v c) _
        (λ t. and_T _ _ t (cond_in g _ (λ s.
        let e = are v x c a u y s in
        or_right (keep b) _ (told b (two.mirrored y b x a (moved q u y b b v x c a e.second refl e.first e.option t))))))
        (λ t. T_left (q u b v c) _ t);
    long = refl;
    fewer = omega arith;
  }

-- what passes is the same, and so is what is left
pub back_same : (q : Pairs) (x a y : ℕ) (f g : ℕ → Bool) → ((b : ℕ) → f b ≡ g b) → (u b v c : ℕ) → less_back q x a y f u b v c ≡ less_back q x a y g u b v c
back_same q x a y f g e u b v c = ap (λ t. q u b v c && cond (eqb v x && (eqb c a && eqb u y)) t true) (e b)

-- an option that passes need not wait
pub skip_passes : (keep : ℕ → Bool) (w d : ℕ) → T (has w d) → T (keep d) → (b : ℕ) → (keep b || has w b) ≡ (keep b || has (w - 2 ^ d) b)
skip_passes keep w d h k b = grind (arith, common_steps, has_less, not_T, or_cases, or_left, or_right, same_test)

-- once nothing waits, what passes is what is kept
pub none_waits : (keep : ℕ → Bool) (w : ℕ) → w ≡ 0 → (b : ℕ) → (keep b || has w b) ≡ keep b
none_waits keep w e b = grind (arith, common_steps)

-- one option is taken back
pub back_step : (q q₁ q₂ : Pairs) (x a y w d : ℕ) (keep : ℕ → Bool) → T (has w d) → (T (keep d) → ⊥)
    → ((u b v c : ℕ) → q₁ u b v c ≡ less_back q x a y (λ b. keep b || has w b) u b v c)
    → ((u b v c : ℕ) → q₂ u b v c ≡ (q₁ u b v c && cond (eqb u y && (eqb b d && eqb v x)) (not (eqb c a)) true))
    → (u b v c : ℕ) → q₂ u b v c ≡ less_back q x a y (λ b. keep b || has (w - 2 ^ d) b) u b v c
back_step q q₁ q₂ x a y w d keep h out is is' u b v c = grind (arith, common_steps, are, cond_in, cond_out, eq-eqb, has_less, not_T, or_cases, or_left, or_right, same_test, these)

-- a write below the end that takes no option in
pub write_leaves : (n : ℕ) (words words₁ : List ℕ) (q q' : Pairs) (i v : ℕ) → Leaves n words words₁ q → i < n * 512 → i < length words₁ → ones v ≤ ones (get_or words₁ i 0)
    → ((x a y b : ℕ) → pairs_of n (set words₁ i v) x a y b ≡ q' x a y b) → Leaves n words (set words₁ i v) q'
write_leaves n words words₁ q q' i v l inside long less is = grind (arith, common_steps, length-set, options_set)

-- a number is below the power
pub below_power : (n : ℕ) → n < 2 ^ n
below_power zero = omega arith
below_power (suc n) = omega (arith, below_power n, pow-suc 2 n)

fewer_without : (w a : ℕ) → ones (set_without w a) ≤ ones w
fewer_without w a = grind (arith, common_steps, ones, ones_without)

module _ (row : Choice) (words words₁ : List ℕ) (at : InTable row words) (y : ℕ) (inside : y < row.fields) (apart : row.field ≢ y) (keep : ℕ → Bool) where
  abbrev left : (ℕ → Bool) → Pairs
  left = less_back (pairs_in row words) row.field row.option y

  -- the option is taken out of the word of an option that waits and is not kept
  pub step_drop : (w d v : ℕ) → T (has w d) → d < 32 → (T (keep d) → ⊥) → Leaves row.fields words words₁ (left (λ b. keep b || has w b)) → word_to row words₁ y ≡ word_to row words y
      → v ≡ set_without (get_or words₁ (word_at y d row.field) 0) row.option
      → Leaves row.fields words (set words₁ (word_at y d row.field) v) (left (λ b. keep b || has (w - 2 ^ d) b)) × (word_to row (set words₁ (word_at y d row.field) v) y ≡ word_to row words y)
  step_drop w d v h l out now same is =
      let n = row.fields in
      let x = row.field in
      let a = row.option in
      let i = word_at y d x in
      let x16 : x < 16 = omega (arith, at.few, at.field) in
      let y16 : y < 16 = omega (arith, at.few, inside) in
      let below : i < n * 512 = word_below n y d x inside l x16 in
      let long : i < length words₁ = omega (arith, below, at.room, now.long) in
      let wrote : (u b z c : ℕ) → pairs_of n (set words₁ i v) u b z c ≡ (pairs_of n words₁ u b z c && cond (eqb u y && (eqb b d && eqb z x)) (not (eqb c a)) true) =
      pairs_written n words₁ y d x v (λ c. not (eqb c a)) inside l x16 long (λ c. ap (λ m. has m c) is ∙ has_without (get_or words₁ i 0) a c) in (
        write_leaves n words words₁ (left (λ b. keep b || has w b)) _ i v now below long (subst (λ m. ones m ≤ ones (get_or words₁ i 0)) (sym is) (fewer_without (get_or words₁ i 0) a))
            (back_step (pairs_in row words) (pairs_of n words₁) (pairs_of n (set words₁ i v)) x a y w d keep h out now.pairs wrote),
        get_or-set_other words₁ i (word_at x a y) v 0 (λ e. apart (word_apart x a y y d x at.option l y16 x16 e).0) ∙ same,
      )

  -- an option that is kept, and the end
  pub step_skip : (w d : ℕ) → T (has w d) → T (keep d) → Leaves row.fields words words₁ (left (λ b. keep b || has w b)) → Leaves row.fields words words₁ (left (λ b. keep b || has (w - 2 ^ d) b))
  step_skip w d h k now = record {
    pairs = λ u b v c. now.pairs u b v c ∙ back_same (pairs_in row words) row.field row.option y _ _ (skip_passes keep w d h k) u b v c;
    long = now.long;
    fewer = now.fewer;
  }

  pub step_end : (w : ℕ) → w ≡ 0 → Leaves row.fields words words₁ (left (λ b. keep b || has w b)) → Leaves row.fields words words₁ (left keep)
  step_end w e now = record {
    pairs = λ u b v c. now.pairs u b v c ∙ back_same (pairs_in row words) row.field row.option y _ _ (none_waits keep w e) u b v c;
    long = now.long;
    fewer = now.fewer;
  }

-- and out of its own word by a mask
module _ (row : Choice) (words words₁ : List ℕ) (at : InTable row words) (y : ℕ) (inside : y < row.fields) (mask v : ℕ) where
  abbrev back : Pairs
  back = less_back (pairs_in row words) row.field row.option y (has mask)

  abbrev place : ℕ
  place = word_at row.field row.option y

  pub masked : Leaves row.fields words words₁ back → word_to row words₁ y ≡ word_to row words y → v ≡ bit_and (get_or words₁ place 0) mask
      → Leaves row.fields words (set words₁ place v) (less_toward (pairs_in row words) row.field row.option y (has mask))
      × (AllPass (pairs_in row words) row.field row.option y (has mask) ⊎ (options (set words₁ place v) < options words))
  masked now same is =
      let n = row.fields in
      let x = row.field in
      let a = row.option in
      let y16 : y < 16 = omega (arith, at.few, inside) in
      let below : place < n * 512 = word_below n x a y at.field at.option y16 in
      let long : place < length words₁ = omega (arith, below, at.room, now.long) in
      let own = get_or words₁ place 0 in
      let two : (bit_and own mask ≡ own) ⊎ (ones (bit_and own mask) < ones own) = ones_and own own mask (below_power own) in
      let le : ones v ≤ ones own =
      subst (λ m. ones m ≤ ones own) (sym is) (⊎_elim (λ (e : bit_and own mask ≡ own). subst (λ m. ones m ≤ ones own) (sym e) (omega arith)) (λ l. omega arith) two) in (
        write_leaves n words words₁ back _ place v now below long le
            (λ u b z c. pairs_written n words₁ x a y v (has mask) at.field at.option y16 long (λ b. ap (λ m. has m b) is ∙ has_and own mask b) u b z c ∙ ap (λ t. t && cond (eqb u x && (eqb b a && eqb z y)) (has mask c) true) (now.pairs u b z c)),
        ⊎_elim
            (λ e. inl (λ b t. T_right (has (word_to row words y) b) _ (subst T (has_and (word_to row words y) mask b) (subst (λ m. T (has m b)) (sym (subst (λ m. bit_and m mask ≡ m) same e)) (told row words at y inside b t)))))
            (λ l. inr (omega (arith, options_set words₁ place v long, now.fewer, subst (λ m. ones m < ones own) (sym is) l)))
            two,
      )

-- WHOLE ROWS
-- what is left of a pair that passes in both orders, and what a pair that is left tells
pub record Toward (q : Pairs) (x a y : ℕ) (passes : ℕ → Bool) (u b v c : ℕ) : Type 0 where
  pub pair : T (q u b v c)
  pub forth : u ≡ x → b ≡ a → v ≡ y → T (passes c)
  pub back : v ≡ x → c ≡ a → u ≡ y → T (passes b)

toward_out : (q : Pairs) (x a y : ℕ) (passes : ℕ → Bool) (u b v c : ℕ) → T (less_toward q x a y passes u b v c) → Toward q x a y passes u b v c
toward_out q x a y passes u b v c t = grind (arith, common_steps)

toward_in : (q : Pairs) (x a y : ℕ) (passes : ℕ → Bool) (u b v c : ℕ) → Toward q x a y passes u b v c → T (less_toward q x a y passes u b v c)
toward_in q x a y passes u b v c t = grind (arith, common_steps)

pub record Below (q : Pairs) (x a : ℕ) (l : Part) (k u b v c : ℕ) : Type 0 where
  pub pair : T (q u b v c)
  pub forth : u ≡ x → b ≡ a → v < k → T (l v c)
  pub back : v ≡ x → c ≡ a → u < k → T (l u b)

within : (u x b a v k : ℕ) → u ≡ x → b ≡ a → v < k → T (eqb u x && (eqb b a && ltb v k))
within u x b a v k e f g = grind (arith, common_steps, eq-eqb)

pub below_out : (q : Pairs) (x a : ℕ) (l : Part) (k u b v c : ℕ) → T (less_below q x a l k u b v c) → Below q x a l k u b v c
below_out q x a l k u b v c t = grind (arith, common_steps)

pub below_in : (q : Pairs) (x a : ℕ) (l : Part) (k u b v c : ℕ) → Below q x a l k u b v c → T (less_below q x a l k u b v c)
below_in q x a l k u b v c t = grind (arith, common_steps)

module _ (q : Pairs) (x a : ℕ) (l : Part) where
  -- no field yet
  pub below_none : (u b v c : ℕ) → q u b v c ≡ less_below q x a l 0 u b v c
  below_none u b v c =
      same_test (q u b v c) (less_below q x a l 0 u b v c)
      (λ t. below_in q x a l 0 u b v c (record { pair = t; forth = λ _ _ h. absurd (omega arith); back = λ _ _ h. absurd (omega arith) }))
      (λ t. (below_out q x a l 0 u b v c t).pair)

  -- one field more
  pub below_more : (k : ℕ) (q₁ : Pairs) → ((u b v c : ℕ) → q₁ u b v c ≡ less_below q x a l k u b v c)
      → (u b v c : ℕ) → less_toward q₁ x a k (l k) u b v c ≡ less_below q x a l (k + 1) u b v c
  below_more k q₁ is u b v c =
      same_test (less_toward q₁ x a k (l k) u b v c) (less_below q x a l (k + 1) u b v c)
      (λ t.
      let w = toward_out q₁ x a k (l k) u b v c t in
      let o = below_out q x a l k u b v c (subst T (is u b v c) w.pair) in
      below_in q x a l (k + 1) u b v c (record {
        pair = o.pair;
        forth = λ e f h. ⊎_elim (λ s. subst (λ z. T (l z c)) (sym s) (w.forth e f s)) (λ ne. o.forth e f (omega arith)) (cases_eq v k);
        back = λ e f h. ⊎_elim (λ s. subst (λ z. T (l z b)) (sym s) (w.back e f s)) (λ ne. o.back e f (omega arith)) (cases_eq u k);
      }))
      (λ t.
      let o = below_out q x a l (k + 1) u b v c t in
      toward_in q₁ x a k (l k) u b v c (record {
        pair = subst T (sym (is u b v c)) (below_in q x a l k u b v c (record { pair = o.pair; forth = λ e f h. o.forth e f (omega arith); back = λ e f h. o.back e f (omega arith) }));
        forth = λ e f s. subst (λ z. T (l z c)) s (o.forth e f (omega arith));
        back = λ e f s. subst (λ z. T (l z b)) s (o.back e f (omega arith));
      }))

  -- the row's own field has no pairs with it
  pub below_own : TwoWay q → (u b v c : ℕ) → less_below q x a l x u b v c ≡ less_below q x a l (x + 1) u b v c
  below_own two u b v c = grind (arith, common_steps, below_in, below_out, same_test)

  -- what is left comes in both orders too
  pub below_two_way : (k : ℕ) (q₁ : Pairs) → TwoWay q → ((u b v c : ℕ) → q₁ u b v c ≡ less_below q x a l k u b v c) → TwoWay q₁
  below_two_way k q₁ two is = record {
    mirrored = λ u b v c t.
        let o = below_out q x a l k u b v c (subst T (is u b v c) t) in
        subst T (sym (is v c u b)) (below_in q x a l k v c u b (record { pair = two.mirrored u b v c o.pair; forth = o.back; back = o.forth }));
    apart = λ u b v c t. two.apart u b v c (below_out q x a l k u b v c (subst T (is u b v c) t)).pair;
  }

  -- all fields
  pub below_all : (n : ℕ) → TwoWay q → ((u b v c : ℕ) → T (q u b v c) → u < n) → (u b v c : ℕ) → less_below q x a l n u b v c ≡ less_pairs q x a l u b v c
  below_all n two inside u b v c =
      same_test (less_below q x a l n u b v c) (less_pairs q x a l u b v c)
      (λ t.
      let o = below_out q x a l n u b v c t in
      and_T _ _ o.pair (and_T _ _
      (cond_in (eqb u x && eqb b a) _ (λ s. o.forth (eqb→eq u x (T_left (eqb u x) _ s)) (eqb→eq b a (T_right (eqb u x) _ s)) (inside v c u b (two.mirrored u b v c o.pair))))
      (cond_in (eqb v x && eqb c a) _ (λ s. o.back (eqb→eq v x (T_left (eqb v x) _ s)) (eqb→eq c a (T_right (eqb v x) _ s)) (inside u b v c o.pair)))))
      (λ t.
      let r = T_right (q u b v c) _ t in
      below_in q x a l n u b v c (record {
        pair = T_left (q u b v c) _ t;
        forth = λ e f h. cond_out (eqb u x && eqb b a) _ (T_left (cond (eqb u x && eqb b a) (l v c) true) _ r) (and_T _ _ (T_yes _ (eq-eqb u x e)) (T_yes _ (eq-eqb b a f)));
        back = λ e f h. cond_out (eqb v x && eqb c a) _ (T_right (cond (eqb u x && eqb b a) (l v c) true) _ r) (and_T _ _ (T_yes _ (eq-eqb v x e)) (T_yes _ (eq-eqb c a f)));
      }))

-- nothing of the first k fields was lost, or fewer options are left
abbrev pub LostBelow : Choice → List ℕ → Part → ℕ → List ℕ → Type 0
LostBelow row first l k now =
    ((y : ℕ) → y < k → AllPass (pairs_in row first) row.field row.option y (l y)) ⊎ (options now < options first)

module _ (row : Choice) (first now : List ℕ) (l : Part) (k : ℕ) (two : TwoWay (pairs_in row first)) (left : Leaves row.fields first now (less_below (pairs_in row first) row.field row.option l k)) (lost : LostBelow row first l k now) where
  -- a field is passed over, and one is looked at
  pub row_own : k ≡ row.field → Leaves row.fields first now (less_below (pairs_in row first) row.field row.option l (k + 1)) × LostBelow row first l (k + 1) now
  row_own e = (
    record {
      pairs = λ u b v c. left.pairs u b v c ∙ ap (λ i. less_below (pairs_in row first) row.field row.option l i u b v c) e
          ∙ below_own (pairs_in row first) row.field row.option l two u b v c ∙ ap (λ i. less_below (pairs_in row first) row.field row.option l (i + 1) u b v c) (sym e);
      long = left.long;
      fewer = left.fewer;
    },
    ⊎_elim
        (λ all. inl (λ y h b t. ⊎_elim
        (λ s. absurd (two.apart row.field row.option y b t (sym e ∙ sym s)))
        (λ ne. all y (omega arith) b t)
        (cases_eq y k)))
        inr
        lost,
  )

  pub row_more : (after : List ℕ) (mask : ℕ) → ((c : ℕ) → has mask c ≡ l k c) → (row.field ≢ k)
      → Leaves row.fields now after (less_toward (pairs_in row now) row.field row.option k (has mask))
      → (AllPass (pairs_in row now) row.field row.option k (has mask) ⊎ (options after < options now))
      → Leaves row.fields first after (less_below (pairs_in row first) row.field row.option l (k + 1)) × LostBelow row first l (k + 1) after
  row_more after mask is apart more fewer = (
    record {
      pairs = λ u b v c. more.pairs u b v c
          ∙ ap (λ i. (pairs_in row now u b v c && cond (eqb v row.field && (eqb c row.option && eqb u k)) i true) && cond (eqb u row.field && (eqb b row.option && eqb v k)) (has mask c) true) (is b)
          ∙ ap (λ i. (pairs_in row now u b v c && cond (eqb v row.field && (eqb c row.option && eqb u k)) (l k b) true) && cond (eqb u row.field && (eqb b row.option && eqb v k)) i true) (is c)
          ∙ below_more (pairs_in row first) row.field row.option l k (pairs_in row now) left.pairs u b v c;
      long = more.long ∙ left.long;
      fewer = omega (arith, more.fewer, left.fewer);
    },
    ⊎_elim
        (λ pass. ⊎_elim
        (λ all. inl (λ y h b t. ⊎_elim
        (λ s.
        let here : T (pairs_in row first row.field row.option k b) = subst (λ z. T (pairs_in row first row.field row.option z b)) s t in
        let still : T (pairs_in row now row.field row.option k b) =
        subst T (sym (left.pairs row.field row.option k b)) (below_in (pairs_in row first) row.field row.option l k row.field row.option k b (record { pair = here; forth = λ _ _ i. absurd (omega arith); back = λ i _ _. absurd (apart (sym i)) })) in
        subst (λ z. T (l z b)) (sym s) (subst T (is b) (pass b still)))
        (λ ne. all y (omega arith) b t)
        (cases_eq y k)))
        (λ less. inr (omega (arith, more.fewer, less)))
        lost)
        (λ less. inr (omega (arith, left.fewer, less)))
        fewer,
  )

-- a row is in the table however the words change
pub still_in : (row : Choice) (first now : List ℕ) → length now ≡ length first → InTable row first → InTable row now
still_in row first now e at = record { few = at.few; field = at.field; option = at.option; room = omega (arith, e, at.room) }

-- the end of a row
pub row_end : (row : Choice) (first now : List ℕ) (l : Part) → TwoWay (pairs_in row first) → Leaves row.fields first now (less_below (pairs_in row first) row.field row.option l row.fields)
    → Leaves row.fields first now (less_pairs (pairs_in row first) row.field row.option l)
row_end row first now l two left = grind (arith, common_steps)

-- at first the words are as they were
pub row_start : (row : Choice) (first : List ℕ) (l : Part) → Leaves row.fields first first (less_below (pairs_in row first) row.field row.option l 0)
row_start row first l = record { pairs = below_none (pairs_in row first) row.field row.option l; long = refl; fewer = omega arith }
