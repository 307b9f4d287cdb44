-- The run of a tightening: what holds between two probes, and what each probe does to it.
use Rattle.std.proofs.Common.{◌≡◌, ℕ, ◌+◌, ◌<◌, not, ◌&&◌, T, eqb, ◌≢◌, List, length, sym, refl, subst, ⊎_elim, arith, eqb→eq}
use Rattle.std.proofs.lemmas.Grind.{common_steps}
use Rattle.std.proofs.lemmas.Bool.{cases_eq, eq-eqb}
use Rattle.network.specs.Network.{Rule, rule_at, Part, part, InLargest, Largest}
use Rattle.propagation.specs.Opening.{IsWipedOut}
use Rattle.books.specs.Pairs.{Pairs, pair_rules}
use Rattle.tightening.specs.Underway.{Probed, Underway}
use Rattle.tightening.specs.Tightening.{Stands, less_pairs, narrowed, Tightest, TightWipedOut, RowsAreExact}
use Rattle.network.proofs.Truth.{T_yes, and_T, T_left, T_right}
use Rattle.std.proofs.Math.Dec.{not_T, T_not}
use Rattle.propagation.proofs.Strikes.{is_field}
use Rattle.tightening.proofs.Theory.{arc_supported, in_largest, narrowed_to, covers_start, covers_struck, covers_pruned, covers_empty, probed_after, end_tightest, tightest_rows}

-- p' and q' are p and q less option a of field x and its pairs
pub record LessOption (p p' : Part) (q q' : Pairs) (x a : ℕ) : Type 0 where
  pub options_stay : (y b : ℕ) → T (p y b) → (y ≡ x → b ≡ a → ⊥) → T (p' y b)
  pub options_only : (y b : ℕ) → T (p' y b) → T (p y b)
  pub options_gone : T (p' x a) → ⊥
  pub pairs_stay : (y b z c : ℕ) → T (q y b z c) → (y ≡ x → b ≡ a → ⊥) → (z ≡ x → c ≡ a → ⊥) → T (q' y b z c)
  pub pairs_only : (y b z c : ℕ) → T (q' y b z c) → T (q y b z c)
  pub pairs_gone : (y b : ℕ) → T (q' x a y b) → ⊥
  pub pairs_gone_back : (y b : ℕ) → T (q' y b x a) → ⊥

-- q' is q less the pairs of option a of field x with what l does not keep
pub record LessPairs (q q' : Pairs) (x a : ℕ) (l : Part) : Type 0 where
  pub stay : (y b z c : ℕ) → T (q y b z c) → (y ≡ x → b ≡ a → T (l z c)) → (z ≡ x → c ≡ a → T (l y b)) → T (q' y b z c)
  pub only : (y b z c : ℕ) → T (q' y b z c) → T (q y b z c)
  pub kept : (y b : ℕ) → T (q' x a y b) → T (l y b)
  pub kept_back : (y b : ℕ) → T (q' y b x a) → T (l y b)

same_from : (x a y b : ℕ) → y ≡ x → b ≡ a → T (eqb y x && eqb b a)
same_from x a y b e f = and_T _ _ (T_yes _ (eq-eqb y x e)) (T_yes _ (eq-eqb b a f))

same_both : {P : Type 0} (x a y b : ℕ) → (y ≡ x → b ≡ a → P) → T (eqb y x && eqb b a) → P
same_both x a y b f t = f (eqb→eq y x (T_left (eqb y x) _ t)) (eqb→eq b a (T_right (eqb y x) _ t))

pub less_pairs_is : (q q' : Pairs) (x a : ℕ) (l : Part) → ((y b z c : ℕ) → q' y b z c ≡ less_pairs q x a l y b z c) → LessPairs q q' x a l
less_pairs_is q q' x a l e = grind (arith, common_steps)

-- where l keeps nothing, all the pairs of the option go
pub less_option_is : (p p' : Part) (q q' : Pairs) (x a : ℕ) (l : Part) → ((y b : ℕ) → p' y b ≡ (p y b && not (eqb y x && eqb b a)))
    → ((y b : ℕ) → T (l y b) → ⊥) → ((y b z c : ℕ) → q' y b z c ≡ less_pairs q x a l y b z c) → LessOption p p' q q' x a
less_option_is p p' q q' x a l d none e =
    let lp = less_pairs_is q q' x a l e in
    record {
      options_stay = λ y b t f. subst T (sym (d y b)) (and_T _ _ t (not_T (eqb y x && eqb b a) (same_both x a y b f)));
      options_only = λ y b t. T_left (p y b) _ (subst T (d y b) t);
      options_gone = λ t. T_not (eqb x x && eqb a a) (T_right (p x a) _ (subst T (d x a) t)) (same_from x a x a refl refl);
      pairs_stay = λ y b z c t f g. lp.stay y b z c t (λ i j. absurd (f i j)) (λ i j. absurd (g i j));
      pairs_only = lp.only;
      pairs_gone = λ y b t. none y b (lp.kept y b t);
      pairs_gone_back = λ y b t. none y b (lp.kept_back y b t);
    }

module _ (rules : List Rule) (sets : List ℕ) where
  -- a probe that is done stays done where the options and the pairs that go are all of an option that it is not paired with
  pub probed_stays : (p p' : Part) (q q' : Pairs) (x a u c : ℕ) → x < length sets → u < length sets
      → ((y b : ℕ) → T (p y b) → (y ≡ x → b ≡ a → ⊥) → T (p' y b))
      → ((y b z d : ℕ) → T (q y b z d) → (y ≡ x → b ≡ a → ⊥) → (z ≡ x → d ≡ a → ⊥) → T (q' y b z d))
      → ((y b : ℕ) → T (q' u c y b) → T (q u c y b))
      → (u ≡ x → c ≡ a → ⊥) → (T (q u c x a) → ⊥)
      → Probed rules sets p q u c → Probed rules sets p' q' u c
  probed_stays p p' q q' x a u c h k f g only ne unpaired done =
      let n = length sets in
      let move : (z d : ℕ) → InLargest (pair_rules n q) (narrowed p u c) z d → InLargest (pair_rules n q') (narrowed p' u c) z d =
      λ z d i.
      let s = i.0 in
      let sup = arc_supported n q s i.1.1.0 in
      let none : T (s x a) → ⊥ =
      λ t. ⊎_elim
      (λ e. ne e (sym (narrowed_to p u c a (subst (λ v. T (narrowed p u c v a)) (sym e) (i.1.0 x a t)))))
      (λ ne'. let m = sup x a u h k (λ e. ne' (sym e)) t in
      unpaired (subst (λ o. T (q u o x a)) (narrowed_to p u c m.option (i.1.0 u m.option m.kept)) m.back))
      (cases_eq u x) in
      let clear : (y b : ℕ) → T (s y b) → y ≡ x → b ≡ a → ⊥ =
      λ y b t e e'. none (subst (λ v. T (s v a)) e (subst (λ w. T (s y w)) e' t)) in
      in_largest n q' (narrowed p' u c) s
      (λ y b t. let w = i.1.0 y b t in and_T _ _ (f y b (T_left (p y b) _ w) (clear y b t)) (T_right (p y b) _ w))
      (λ y b v yl vl apart t.
      let m = sup y b v yl vl apart t in
      record {
        option = m.option;
        forth = g y b v m.option m.forth (clear y b t) (clear v m.option m.kept);
        back = g v m.option y b m.back (clear v m.option m.kept) (clear y b t);
        kept = m.kept;
      })
      z d i.1.1.1 in
      record {
        full = λ z l. let e = done.full z l in (e.0, move z e.0 e.1);
        holds = λ y b t. move y b (done.holds y b (only y b t));
      }

  -- the pair stands as far as the first k rules go
  pub record StandsUnder (k x a y b : ℕ) : Type 0 where
    pub apart : x ≢ y
    pub first : T (part sets x a)
    pub second : T (part sets y b)
    pub forth : (r : ℕ) → r < k → (rule_at rules r).left ≡ x → (rule_at rules r).right ≡ y → T ((rule_at rules r).allows a b)
    pub back : (r : ℕ) → r < k → (rule_at rules r).left ≡ y → (rule_at rules r).right ≡ x → T ((rule_at rules r).allows b a)

  pub stands_none : (x a y b : ℕ) → x ≢ y → T (part sets x a) → T (part sets y b) → StandsUnder 0 x a y b
  stands_none x a y b ne s t =
      record { apart = ne; first = s; second = t; forth = λ r l _ _. absurd (omega arith); back = λ r l _ _. absurd (omega arith) }

  pub stands_more : (k x a y b : ℕ) → StandsUnder k x a y b
      → ((rule_at rules k).left ≡ x → (rule_at rules k).right ≡ y → T ((rule_at rules k).allows a b))
      → ((rule_at rules k).left ≡ y → (rule_at rules k).right ≡ x → T ((rule_at rules k).allows b a))
      → StandsUnder (k + 1) x a y b
  stands_more k x a y b s f g = record {
    apart = s.apart;
    first = s.first;
    second = s.second;
    forth = λ r l. ⊎_elim
        (λ e. subst (λ i. (rule_at rules i).left ≡ x → (rule_at rules i).right ≡ y → T ((rule_at rules i).allows a b)) (sym e) f)
        (λ ne. s.forth r (omega arith)) (cases_eq r k);
    back = λ r l. ⊎_elim
        (λ e. subst (λ i. (rule_at rules i).left ≡ y → (rule_at rules i).right ≡ x → T ((rule_at rules i).allows b a)) (sym e) g)
        (λ ne. s.back r (omega arith)) (cases_eq r k);
  }

  pub stands_fewer : (k x a y b : ℕ) → StandsUnder (k + 1) x a y b → StandsUnder k x a y b
  stands_fewer k x a y b s = record {
    apart = s.apart;
    first = s.first;
    second = s.second;
    forth = λ r l. s.forth r (omega arith);
    back = λ r l. s.back r (omega arith);
  }

  pub stands_mirror : (k x a y b : ℕ) → StandsUnder k x a y b → StandsUnder k y b x a
  stands_mirror k x a y b s = grind (arith, common_steps)

  pub stands_all : (x a y b : ℕ) → StandsUnder (length rules) x a y b → Stands rules sets x a y b
  stands_all x a y b s = record { apart = s.apart; first = s.first; second = s.second; forth = s.forth; back = s.back }

  pub all_stands : (x a y b : ℕ) → Stands rules sets x a y b → StandsUnder (length rules) x a y b
  all_stands x a y b s = record { apart = s.apart; first = s.first; second = s.second; forth = s.forth; back = s.back }

  pub underway_start : (waits : Part) (q : Pairs)
      → ((x a y b : ℕ) → Stands rules sets x a y b → T (q x a y b))
      → ((x a y b : ℕ) → T (q x a y b) → Stands rules sets x a y b)
      → ((x a : ℕ) → T (part sets x a) → T (waits x a))
      → Underway rules sets waits (part sets) q
  underway_start waits q f g w = record {
    covers = covers_start rules sets q f;
    standing = record { options = λ x a t. t; pairs = λ x a y b t. let s = g x a y b t in (s, (s.first, s.second)) };
    done = λ x a t n. absurd (n (w x a t));
  }

  -- a probe that empties a field: the option goes with its pairs, and what was paired with it waits
  pub underway_struck : (waits waits' p p' : Part) (q q' : Pairs) (x a : ℕ) → Underway rules sets waits p q → T (p x a)
      → IsWipedOut (pair_rules (length sets) q) (length sets) (narrowed p x a)
      → LessOption p p' q q' x a
      → ((y b : ℕ) → T (waits y b) → (y ≡ x → b ≡ a → ⊥) → T (waits' y b))
      → ((y b : ℕ) → T (p y b) → T (q y b x a) → T (waits' y b))
      → Underway rules sets waits' p' q'
  underway_struck waits waits' p p' q q' x a w t out less again paired =
      let field : (y b : ℕ) → T (p y b) → y < length sets = λ y b s. is_field sets y b (w.standing.options y b s) in
      record {
        covers = covers_struck rules sets p p' q q' x a w.covers out less.options_stay less.pairs_stay;
        standing = record {
          options = λ y b s. w.standing.options y b (less.options_only y b s);
          pairs = λ y b z c s.
              let st = w.standing.pairs y b z c (less.pairs_only y b z c s) in
              let left : y ≡ x → b ≡ a → ⊥ = λ e e'. less.pairs_gone z c (subst (λ v. T (q' v a z c)) e (subst (λ d. T (q' y d z c)) e' s)) in
              let right : z ≡ x → c ≡ a → ⊥ = λ e e'. less.pairs_gone_back y b (subst (λ v. T (q' y b v a)) e (subst (λ d. T (q' y b z d)) e' s)) in
              (st.0, (less.options_stay y b st.1.0 left, less.options_stay z c st.1.1 right));
        };
        done = λ u c s no.
            let there = less.options_only u c s in
            let ne : u ≡ x → c ≡ a → ⊥ = λ e e'. less.options_gone (subst (λ v. T (p' v a)) e (subst (λ d. T (p' u d)) e' s)) in
            probed_stays p p' q q' x a u c (field x a t) (field u c there) less.options_stay less.pairs_stay (less.pairs_only u c) ne
            (λ m. no (paired u c there m))
            (w.done u c there (λ m. no (again u c m ne)));
      }

  -- a probe that leaves every field an option: the pairs that it lost go, and what was paired with the option waits
  pub underway_pruned : (waits waits' p : Part) (q q' : Pairs) (x a : ℕ) (l : Part) → Underway rules sets waits p q → T (p x a)
      → Largest (pair_rules (length sets) q) (narrowed p x a) l → ((z : ℕ) → z < length sets → (c : ℕ) × T (l z c))
      → LessPairs q q' x a l
      → ((y b : ℕ) → T (waits y b) → (y ≡ x → b ≡ a → ⊥) → T (waits' y b))
      → ((y b : ℕ) → T (p y b) → T (q y b x a) → T (waits' y b))
      → Underway rules sets waits' p q'
  underway_pruned waits waits' p q q' x a l w t large full less again paired =
      let field : (y b : ℕ) → T (p y b) → y < length sets = λ y b s. is_field sets y b (w.standing.options y b s) in
      let self : Probed rules sets p q' x a =
      probed_after rules sets p q q' x a l large full (λ y b z c s i j. less.stay y b z c s (λ _ _. j) (λ _ _. i)) less.kept in
      let other : (u c : ℕ) → T (p u c) → (T (waits' u c) → ⊥) → (u ≡ x → c ≡ a → ⊥) → Probed rules sets p q' u c =
      λ u c s no ne.
      probed_stays p p q q' x a u c (field x a t) (field u c s) (λ y b v _. v)
      (λ y b z d v e f. less.stay y b z d v (λ i j. absurd (e i j)) (λ i j. absurd (f i j))) (less.only u c) ne
      (λ m. no (paired u c s m)) (w.done u c s (λ m. no (again u c m ne))) in
      record {
        covers = covers_pruned rules sets p q q' x a l w.covers large less.stay;
        standing = record { options = w.standing.options; pairs = λ y b z c s. w.standing.pairs y b z c (less.only y b z c s) };
        done = λ u c s no.
            ⊎_elim
            (λ e. ⊎_elim
            (λ e'. subst (λ v. Probed rules sets p q' v c) (sym e) (subst (Probed rules sets p q' x) (sym e') self))
            (λ ne. other u c s no (λ _ e'. ne e'))
            (cases_eq c a))
            (λ ne. other u c s no (λ e _. ne e))
            (cases_eq u x);
      }

  -- a probe that loses no pair: only its own wait ends
  pub underway_quiet : (waits waits' p : Part) (q : Pairs) (x a : ℕ) (l : Part) → Underway rules sets waits p q → T (p x a)
      → Largest (pair_rules (length sets) q) (narrowed p x a) l → ((z : ℕ) → z < length sets → (c : ℕ) × T (l z c))
      → ((y b : ℕ) → T (q x a y b) → T (l y b))
      → ((y b : ℕ) → T (waits y b) → (y ≡ x → b ≡ a → ⊥) → T (waits' y b))
      → Underway rules sets waits' p q
  underway_quiet waits waits' p q x a l w t large full kept again =
      let self : Probed rules sets p q x a =
      record { full = λ z k. let c = full z k in (c.0, large.all z c.0 c.1); holds = λ y b s. large.all y b (kept y b s) } in
      record {
        covers = w.covers;
        standing = w.standing;
        done = λ u c s no.
            ⊎_elim
            (λ e. ⊎_elim
            (λ e'. subst (λ v. Probed rules sets p q v c) (sym e) (subst (Probed rules sets p q x) (sym e') self))
            (λ ne. w.done u c s (λ m. no (again u c m (λ _ e'. ne e'))))
            (cases_eq c a))
            (λ ne. w.done u c s (λ m. no (again u c m (λ e _. ne e))))
            (cases_eq u x);
      }

  -- a job of an option that is gone: only its wait ends
  pub underway_skip : (waits waits' p : Part) (q : Pairs) (x a : ℕ) → Underway rules sets waits p q → (T (p x a) → ⊥)
      → ((y b : ℕ) → T (waits y b) → (y ≡ x → b ≡ a → ⊥) → T (waits' y b))
      → Underway rules sets waits' p q
  underway_skip waits waits' p q x a w gone again = record {
    covers = w.covers;
    standing = w.standing;
    done = λ u c s no. w.done u c s (λ m. no (again u c m (λ e e'. gone (subst (λ v. T (p v a)) e (subst (λ d. T (p u d)) e' s)))));
  }

  pub underway_end : (waits p : Part) (q : Pairs) → Underway rules sets waits p q → ((x a : ℕ) → T (p x a) → T (waits x a) → ⊥) → Tightest rules sets p q
  underway_end waits p q w none = end_tightest rules sets p q w.covers w.standing (λ x a t. w.done x a t (none x a t))

  pub underway_empty : (waits p : Part) (q : Pairs) (x : ℕ) → Underway rules sets waits p q → x < length sets → ((a : ℕ) → T (p x a) → ⊥) → TightWipedOut rules sets
  underway_empty waits p q x w h none = (x, (h, covers_empty rules sets p q x w.covers none))

  -- a full exact part is not wiped out
  pub tightest_full : (p : Part) (q : Pairs) → Tightest rules sets p q → ((x : ℕ) → x < length sets → (a : ℕ) × T (p x a)) → TightWipedOut rules sets → ⊥
  tightest_full p q h full (x, (l, none)) = let a = full x l in none a.0 (h.all_options x a.0 a.1)

-- what is exact is the same options and the same pairs
pub tightest_same_options : (rules : List Rule) (sets : List ℕ) (p p' : Part) (q q' : Pairs) → Tightest rules sets p q → Tightest rules sets p' q' → (x a : ℕ) → T (p x a) → T (p' x a)
tightest_same_options rules sets p p' q q' h k x a t = k.only_options x a (h.all_options x a t)

pub tightest_same_pairs : (rules : List Rule) (sets : List ℕ) (p p' : Part) (q q' : Pairs) → Tightest rules sets p q → Tightest rules sets p' q' → (x a y b : ℕ) → T (q x a y b) → T (q' x a y b)
tightest_same_pairs rules sets p p' q q' h k x a y b t = k.only_pairs x a y b (h.all_pairs x a y b t)

pub rows_are_exact : RowsAreExact
rows_are_exact = tightest_rows
