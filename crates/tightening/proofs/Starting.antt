-- The pairs that stand at the start.
use Rattle.std.proofs.Common.{◌≡◌, ℕ, ◌+◌, ◌-◌, ◌*◌, ◌^◌, ◌<◌, ◌≤◌, Bool, true, false, cond, not, ◌&&◌, ◌||◌, T, eqb, ◌≢◌, List, [], length, get_or, take, set, sym, ap, ◌∙◌, subst, ⊎_elim, arith, lt→ltb}
use Rattle.std.proofs.lemmas.Grind.{common_steps}
use Rattle.std.proofs.lemmas.List.{get_or_past, length-take-le, get_or-take}
use Rattle.std.proofs.lemmas.Bool.{cases_Bool, eq-eqb, ne_eqb, cond-true, cond-false, and_right}
use Rattle.network.specs.Network.{has, Rule, rule_at, no_rule, part}
use Rattle.network.specs.declared.rules.Side.TheVariants.{Left}
use Rattle.network.proofs.Truth.{and_T, T_left, T_right, same_test}
use Rattle.network.proofs.Bits.{none_of_zero, has_below, has_less}
use Rattle.network.specs.Sets.{set_without}
use Rattle.network.proofs.Masks.{has_without}
use Rattle.books.specs.Pairs.{word_at, pairs_of}
use Rattle.books.specs.Reads.{asked, allowed}
use Rattle.books.proofs.Asked.{asked_is, allowed_by, permits_in}
use Rattle.propagation.specs.Opening.{Accepted}
use Rattle.propagation.specs.Undo.{Fit}
use Rattle.tightening.specs.Rows.{TwoWay, less_back, less_toward, Leaves}
use Rattle.tightening.specs.Tightening.{Stands}
use Rattle.tightening.specs.Start.{first_word, first_word_at, Standing}
use Rattle.tightening.proofs.PairWords.{pairs_at, pairs_range, word_below}
use Rattle.tightening.proofs.Probing.{StandsUnder, stands_more, stands_fewer, stands_mirror}
use Rattle.propagation.proofs.Strikes.{is_field}
use Rattle.tightening.proofs.TakingAway.{cond_in, cond_out, or_left, or_right, or_cases, these, are}

-- FIRST WORDS
pub first_same : (sets : List ℕ) (x a y : ℕ) → x ≡ y → first_word sets x a y ≡ 0
first_same sets x a y e = ap (λ t. cond (not t && part sets x a) (get_or sets y 0) 0) (eq-eqb x y e)

pub first_out : (sets : List ℕ) (x a y : ℕ) → part sets x a ≡ false → first_word sets x a y ≡ 0
first_out sets x a y e = cond-false (not (eqb x y) && part sets x a) (get_or sets y 0) 0 (and_right (not (eqb x y)) _ e)

pub first_past : (sets : List ℕ) (x a y : ℕ) → length sets ≤ x → first_word sets x a y ≡ 0
first_past sets x a y l = first_out sets x a y (ap (λ w. has w a) (get_or_past sets x 0 l) ∙ none_of_zero a)

pub first_toward : (sets : List ℕ) (x a y : ℕ) → length sets ≤ y → first_word sets x a y ≡ 0
first_toward sets x a y l =
    ap (λ w. cond (not (eqb x y) && part sets x a) w 0) (get_or_past sets y 0 l)
    ∙ ⊎_elim (cond-true _ 0 0) (cond-false _ 0 0) (cases_Bool (not (eqb x y) && part sets x a))

pub first_in : (sets : List ℕ) (x a y : ℕ) → x ≢ y → part sets x a ≡ true → first_word sets x a y ≡ get_or sets y 0
first_in sets x a y ne e = grind (arith, common_steps)

-- the words below a place are the first ones
abbrev pub Written : List ℕ → ℕ → List ℕ → Type 0
Written sets i words = (k : ℕ) → k < i → get_or words k 0 ≡ first_word_at sets k

pub written_none : (sets before : List ℕ) → Written sets 0 before
written_none sets before = λ k l. absurd (omega arith)

pub written_more : (sets : List ℕ) (i : ℕ) (words : List ℕ) (w : ℕ) → i < length words → w ≡ first_word_at sets i → Written sets i words → Written sets (i + 1) (set words i w)
written_more sets i words w inside is done = grind (arith, common_steps)

-- what the first words tell
pub record First (sets : List ℕ) (x a y b : ℕ) : Type 0 where
  pub apart : x ≢ y
  pub first : T (part sets x a)
  pub second : T (part sets y b)

pub first_tells : (sets : List ℕ) (x a y b : ℕ) → T (has (first_word sets x a y) b) → First sets x a y b
first_tells sets x a y b t = grind (arith, common_steps)

pub first_told : (sets : List ℕ) (x a y b : ℕ) → First sets x a y b → T (has (first_word sets x a y) b)
first_told sets x a y b f = grind (arith, common_steps, first_in)

pub first_at : (sets : List ℕ) (x a y : ℕ) → a < 32 → y < 16 → first_word_at sets (word_at x a y) ≡ first_word sets x a y
first_at sets x a y h k = grind (arith, common_steps)

pub written_all : (sets words : List ℕ) → length sets ≤ 16 → Fit sets → Written sets (length sets * 512) words → Standing [] sets words
written_all sets words few fit done =
    let n = length sets in
    let read : (x a y b : ℕ) → x < n → a < 32 → y < 16 → pairs_of n words x a y b ≡ has (first_word sets x a y) b =
    λ x a y b h k l. pairs_at n words x a y b h k l ∙ ap (λ w. has w b) (done (word_at x a y) (word_below n x a y h k l) ∙ first_at sets x a y k l) in
    record {
      all = λ x a y b t.
          let r = pairs_range n words x a y b t in
          let f = first_tells sets x a y b (subst T (read x a y b r.first r.option r.second) t) in
          record { apart = f.apart; first = f.first; second = f.second; forth = λ k l _ _. absurd (omega arith); back = λ k l _ _. absurd (omega arith) };
      only = λ x a y b s.
          let h = is_field sets x a s.first in
          let k = has_below 32 (get_or sets x 0) a (fit x) s.first in
          let l : y < 16 = omega (arith, is_field sets y b s.second) in
          subst T (sym (read x a y b h k l)) (first_told sets x a y b (record { apart = s.apart; first = s.first; second = s.second }));
    }

-- OPTIONS THAT WAIT
other_T : (b a : ℕ) → b ≢ a → T (not (eqb b a))
other_T b a ne = subst (λ t. T (not t)) (sym (ne_eqb b a ne)) tt

-- an option passes or waits: so it was before option d was taken out of those that wait, so it still is, and d itself passes
waited : (w d b : ℕ) (p : Bool) → T (has w d) → T (has (w - 2 ^ d) b || p) → T (has w b || p)
waited w d b p h t = grind (arith, common_steps, has_less, or_cases, or_left, or_right)

still : (w d b : ℕ) (p : Bool) → T (has w d) → (b ≡ d → T p) → T (has w b || p) → T (has (w - 2 ^ d) b || p)
still w d b p h f t = grind (arith, common_steps, has_less, or_cases, or_left, or_right)

gone : (w d b : ℕ) (p : Bool) → T (has w d) → b ≡ d → T (has (w - 2 ^ d) b || p) → T p
gone w d b p h e t = grind (arith, common_steps, and_right, eq-eqb, has_less, or_cases)

none_waits : (w b : ℕ) (p : Bool) → w ≡ 0 → (has w b || p) ≡ p
none_waits w b p e = ap (λ v. has v b || p) e ∙ ap (λ t. t || p) (none_of_zero b)

-- what is kept is of the set, and passes or still waits
abbrev pub Kept : (ℕ → Bool) → ℕ → ℕ → ℕ → Type 0
Kept passes w waiting kept = (b : ℕ) → has kept b ≡ (has w b && (has waiting b || passes b))

pub kept_first : (passes : ℕ → Bool) (w : ℕ) → Kept passes w w w
kept_first passes w b = same_test (has w b) (has w b && (has w b || passes b)) (λ t. and_T _ _ t (or_left _ _ t)) (λ t. T_left (has w b) _ t)

-- one option fewer waits: it passes, or is dropped
pub kept_passes : (passes : ℕ → Bool) (w waiting kept a : ℕ) → T (has waiting a) → T (passes a) → Kept passes w waiting kept → Kept passes w (waiting - 2 ^ a) kept
kept_passes passes w waiting kept a h p k b = grind (arith, common_steps, same_test, still, waited)

pub kept_dropped : (passes : ℕ → Bool) (w waiting kept a v : ℕ) → T (has waiting a) → (T (passes a) → ⊥) → v ≡ set_without kept a → Kept passes w waiting kept → Kept passes w (waiting - 2 ^ a) v
kept_dropped passes w waiting kept a v h out is k b = grind (arith, common_steps, eq-eqb, gone, has_without, other_T, same_test, still, waited)

pub kept_end : (passes : ℕ → Bool) (w waiting kept : ℕ) → waiting ≡ 0 → Kept passes w waiting kept → (b : ℕ) → has kept b ≡ (has w b && passes b)
kept_end passes w waiting kept e k b = k b ∙ ap (λ t. has w b && t) (none_waits waiting b (passes b) e)

-- ONE RULE MORE
-- the first k rules of a list
module _ (rules : List Rule) (sets : List ℕ) (k : ℕ) (enough : k ≤ length rules) where
  pub taken_stands : (x a y b : ℕ) → Stands (take k rules) sets x a y b → StandsUnder rules sets k x a y b
  taken_stands x a y b s =
      let long = length-take-le k rules enough in
      record {
        apart = s.apart;
        first = s.first;
        second = s.second;
        forth = λ r l. subst (λ rule. rule.left ≡ x → rule.right ≡ y → T (rule.allows a b)) (get_or-take k rules r no_rule l) (s.forth r (omega arith));
        back = λ r l. subst (λ rule. rule.left ≡ y → rule.right ≡ x → T (rule.allows b a)) (get_or-take k rules r no_rule l) (s.back r (omega arith));
      }

  pub stands_taken : (x a y b : ℕ) → StandsUnder rules sets k x a y b → Stands (take k rules) sets x a y b
  stands_taken x a y b s = grind (arith, common_steps, get_or-take, length-take-le)

module _ (rules : List Rule) (sets : List ℕ) (k : ℕ) where
  abbrev rule : Rule
  rule = rule_at rules k

  -- the pair stands under the first k rules, and the next one allows it unless its option on the left waits
  pub record Partly (w x a y b : ℕ) : Type 0 where
    pub stands : StandsUnder rules sets k x a y b
    pub forth : rule.left ≡ x → rule.right ≡ y → T (has w a || rule.allows a b)
    pub back : rule.left ≡ y → rule.right ≡ x → T (has w b || rule.allows b a)

  partly_mirror : (w x a y b : ℕ) → Partly w x a y b → Partly w y b x a
  partly_mirror w x a y b p = record { stands = stands_mirror rules sets k x a y b p.stands; forth = p.back; back = p.forth }

  -- the words of n fields tell just such pairs
  pub record PartWay (n w : ℕ) (words : List ℕ) : Type 0 where
    pub all : (x a y b : ℕ) → T (pairs_of n words x a y b) → Partly w x a y b
    pub only : (x a y b : ℕ) → Partly w x a y b → T (pairs_of n words x a y b)
    pub of_set : (a : ℕ) → T (has w a) → T (part sets rule.left a)

  pub part_way_two : (n w : ℕ) (words : List ℕ) → PartWay n w words → TwoWay (pairs_of n words)
  part_way_two n w words now = record {
    mirrored = λ x a y b t. now.only y b x a (partly_mirror w x a y b (now.all x a y b t));
    apart = λ x a y b t. (now.all x a y b t).stands.apart;
  }

  -- before the first option, all of them wait
  pub part_way_start : (n : ℕ) (words : List ℕ) → length sets ≡ n → k < length rules → Standing (take k rules) sets words → PartWay n (get_or sets rule.left 0) words
  part_way_start n words long inside now = record {
    all = λ x a y b t.
        let s = taken_stands rules sets k (omega arith) x a y b (now.all x a y b (subst (λ m. T (pairs_of m words x a y b)) (sym long) t)) in
        record {
          stands = s;
          forth = λ e _. or_left _ _ (subst (λ z. T (part sets z a)) (sym e) s.first);
          back = λ e _. or_left _ _ (subst (λ z. T (part sets z b)) (sym e) s.second);
        };
    only = λ x a y b p. subst (λ m. T (pairs_of m words x a y b)) long (now.only x a y b (stands_taken rules sets k (omega arith) x a y b p.stands));
    of_set = λ a t. t;
  }

  pub part_way_end : (n w : ℕ) (words : List ℕ) → length sets ≡ n → k < length rules → w ≡ 0 → PartWay n w words → Standing (take (k + 1) rules) sets words
  part_way_end n w words long inside none now =
      let left : (a : ℕ) (p : Bool) → T (has w a || p) → T p = λ a p t. subst T (none_waits w a p none) t in
      record {
        all = λ x a y b t.
            let p = now.all x a y b (subst (λ m. T (pairs_of m words x a y b)) long t) in
            stands_taken rules sets (k + 1) (omega arith) x a y b
            (stands_more rules sets k x a y b p.stands (λ e f. left a _ (p.forth e f)) (λ e f. left b _ (p.back e f)));
        only = λ x a y b s.
            let u = taken_stands rules sets (k + 1) (omega arith) x a y b s in
            let p : Partly w x a y b = record {
              stands = stands_fewer rules sets k x a y b u;
              forth = λ e f. or_right _ _ (u.forth k (omega arith) e f);
              back = λ e f. or_right _ _ (u.back k (omega arith) e f);
            } in
            subst (λ m. T (pairs_of m words x a y b)) (sym long) (now.only x a y b p);
      }

  -- one option of the left field, x, keeps only the options of y that the rule allows with it
  pub part_way_step : (n : ℕ) (words words' : List ℕ) (w d x y keep : ℕ) → T (has w d) → x ≡ rule.left → y ≡ rule.right
      → ((b : ℕ) → has keep b ≡ (part sets rule.right b && rule.allows d b))
      → Leaves n words words' (less_toward (pairs_of n words) x d y (has keep))
      → PartWay n w words → PartWay n (w - 2 ^ d) words'
  part_way_step n words words' w d x y keep h ex ey is leaves now =
      let q = pairs_of n words in
      let allows : (a b : ℕ) → a ≡ d → T (has keep b) → T (rule.allows a b) =
      λ a b e t. subst (λ m. T (rule.allows m b)) (sym e) (T_right (part sets rule.right b) _ (subst T (is b) t)) in
      let keeps : (a b v : ℕ) → a ≡ d → v ≡ y → T (part sets v b) → T (has (w - 2 ^ d) a || rule.allows a b) → T (has keep b) =
      λ a b v e f t s. subst T (sym (is b)) (and_T _ _ (subst (λ m. T (part sets m b)) (f ∙ ey) t) (subst (λ m. T (rule.allows m b)) e (gone w d a _ h e s))) in
      record {
        all = λ u b v c t.
            let r = subst T (leaves.pairs u b v c) t in
            let l = T_left (less_back q x d y (has keep) u b v c) _ r in
            let p = now.all u b v c (T_left (q u b v c) _ l) in
            record {
              stands = p.stands;
              forth = λ e f. still w d b _ h
                  (λ i. allows b c i (cond_out (eqb u x && (eqb b d && eqb v y)) _ (T_right (less_back q x d y (has keep) u b v c) _ r) (these u x b d v y (sym (ex ∙ e)) i (sym (ey ∙ f)))))
                  (p.forth e f);
              back = λ e f. still w d c _ h
                  (λ i. allows c b i (cond_out (eqb v x && (eqb c d && eqb u y)) _ (T_right (q u b v c) _ l) (these v x c d u y (sym (ex ∙ e)) i (sym (ey ∙ f)))))
                  (p.back e f);
            };
        only = λ u b v c p.
            let wide : Partly w u b v c = record { stands = p.stands; forth = λ e f. waited w d b _ h (p.forth e f); back = λ e f. waited w d c _ h (p.back e f) } in
            subst T (sym (leaves.pairs u b v c))
            (and_T _ _ (and_T _ _ (now.only u b v c wide)
            (cond_in (eqb v x && (eqb c d && eqb u y)) _ (λ t.
            let e = are v x c d u y t in keeps c b u e.option e.second p.stands.first (p.back (sym (e.first ∙ ex)) (sym (e.second ∙ ey))))))
            (cond_in (eqb u x && (eqb b d && eqb v y)) _ (λ t.
            let e = are u x b d v y t in keeps b c v e.option e.second p.stands.second (p.forth (sym (e.first ∙ ex)) (sym (e.second ∙ ey))))));
        of_set = λ a t. now.of_set a (T_left (has w a) _ (subst T (has_less w d a h) t));
      }

  -- what the book allows is what the rule allows
  pub keep_tells : Accepted rules sets → k < length rules → (d keep : ℕ) → d < 32 → ((b : ℕ) → has keep b ≡ (part sets rule.right b && allowed rules k d b))
      → (b : ℕ) → has keep b ≡ (part sets rule.right b && rule.allows d b)
  keep_tells ok inside d keep small is b =
      let left : rule.left < 255 = omega (arith, ok.left_is_field k inside, ok.few) in
      let right : rule.right < 255 = omega (arith, ok.right_is_field k inside, ok.few) in
      let asks = asked_is rules k (omega (arith, ok.rules_few)) in
      is b ∙ ap (λ t. part sets rule.right b && t) (allowed_by rules k rule asks d b)
      ∙ sym (permits_in rule Left d b (get_or sets rule.right 0) (ok.fit rule.right) (and_T _ _ (lt→ltb rule.left 255 left) (lt→ltb rule.right 255 right)) small)

  -- the fields that a book tells of the rule are its ends, two of the n fields
  pub record EndsTold (n x y : ℕ) : Type 0 where
    pub left : x ≡ rule.left
    pub right : y ≡ rule.right
    pub left_is_field : x < n
    pub right_is_field : y < n
    pub apart : x ≢ y

  pub ends_told : Accepted rules sets → k < length rules → (n x y : ℕ) → length sets ≡ n → x ≡ (asked rules k).left → y ≡ (asked rules k).right → EndsTold n x y
  ends_told ok inside n x y long left right = grind (arith, common_steps, asked_is)
