-- What one probe does to what holds between two probes.
use Rattle.std.proofs.Common.{◌≡◌, ℕ, ◌+◌, ◌<◌, ◌≤◌, true, false, T, ◌⊎◌, List, length, get_or, set, Ok, Err, sym, refl, ap, ◌∙◌, subst, ⊎_elim, arith}
use Rattle.std.proofs.lemmas.Grind.{common_steps}
use Rattle.std.proofs.lemmas.List.{length-set}
use Rattle.std.proofs.lemmas.Bool.{eq-eqb, ne_eqb}
use Rattle.network.specs.Network.{has, Rule, Part, part, words, Largest}
use Rattle.network.specs.declared.options.OptionSet.{OptionSet}
use Rattle.network.proofs.Truth.{T_no}
use Rattle.network.proofs.Bits.{some_bit, none_of_zero}
use Rattle.agenda.specs.Waiting.{Waiting, Same, Nothing, without as less_number}
use Rattle.agenda.proofs.Waits.{waits_le}
use Rattle.agenda.specs.Jobs.{probe_number, probe_fits}
use Rattle.agenda.specs.declared.job.Probe.{Probe}
use Rattle.books.specs.Pairs.{Pairs, pairs_of, pair_rules}
use Rattle.propagation.specs.Opening.{IsWipedOut}
use Rattle.propagation.specs.Progress.{Filled, SettledOn}
use Rattle.propagation.specs.Strikes.{options, without}
use Rattle.tightening.specs.Tightening.{narrowed, row, less_pairs, Tightest, TightWipedOut}
use Rattle.tightening.specs.Rows.{InTable, TwoWay, Leaves, AllPass, row_word}
use Rattle.tightening.specs.Start.{Room, StayBeyond}
use Rattle.tightening.specs.Outcomes.{Tried}
use Rattle.tightening.specs.declared.outcome.Emptied.{Emptied}
use Rattle.tightening.specs.Probes.{probes_of, PutOn}
use Rattle.tightening.specs.Underway.{Between, work}
use Rattle.tightening.specs.declared.rows.Choice.{Choice}
use Rattle.tightening.proofs.Theory.{narrowed_to, largest_within}
use Rattle.tightening.proofs.Probing.{less_pairs_is, less_option_is, underway_skip, underway_quiet, underway_pruned, underway_struck, underway_end, underway_empty}
use Rattle.propagation.proofs.Strikes.{is_field, part_without, options_without}
use Rattle.tightening.proofs.TakingAway.{below_power}
use Rattle.tightening.proofs.Trying.{row_part, row_largest, row_wiped}
use Rattle.tightening.proofs.Waitings.{others_wait, still_waits, nothing_waits}

-- a set that is not empty has an option
pub full_of : (sets : List ℕ) → Filled sets → (z : ℕ) → z < length sets → (c : ℕ) × T (part sets z c)
full_of sets filled z l = some_bit (get_or sets z 0) (get_or sets z 0) (below_power (get_or sets z 0)) (filled z l)

-- what is left of two-way pairs is two-way
pub less_two_way : (q q' : Pairs) (x a : ℕ) (l : Part) → TwoWay q → ((y b z c : ℕ) → q' y b z c ≡ less_pairs q x a l y b z c) → TwoWay q'
less_two_way q q' x a l two is = grind (arith, common_steps)

-- THE PROBE OF AN OPTION THAT IS GONE
pub between_skip : (rules : List Rule) (first : List ℕ) (n : ℕ) (sets pairs : List ℕ) (w w' : Waiting) (x a : ℕ) → Between rules first n sets pairs w → a < 32
    → Same (less_number w (probe_number (record { field = x; option = a }))) w' → (T (part sets x a) → ⊥) → Between rules first n sets pairs w'
between_skip rules first n sets pairs w w' x a b l taken gone = record {
  fields = b.fields;
  long = b.long;
  two_way = b.two_way;
  underway = underway_skip rules first (probes_of w) (probes_of w') (part sets) (pairs_of n pairs) x a b.underway gone (others_wait w w' x a l taken);
}

-- THE PROBE OF AN OPTION THAT STANDS
-- the choice of a probe among n fields
abbrev pub choice : ℕ → Probe → Choice
choice n p = record { fields = n; field = p.field; option = p.option }

-- the option of the probe is one of the sets, the trial began with its row, and ended with as many sets
pub record Chosen (n : ℕ) (sets pairs trial last : List ℕ) (p : Probe) : Type 0 where
  pub at : InTable (choice n p) pairs
  pub kept : T (part sets p.field p.option)
  pub long : length trial ≡ n
  pub copied : (y : ℕ) → y < n → get_or trial y 0 ≡ row_word (choice n p) pairs y
  pub last_long : length last ≡ length trial

-- the numbers of a probe that fits
pub fits_are : (p : Probe) → probe_fits p ≡ true → (p.field < 16) × (p.option < 32)
fits_are p h = grind (arith, common_steps)

pub chosen : (sets pairs trial last : List OptionSet) (p : Probe) (i : ℕ) → probe_fits p ≡ true → length sets ≤ 16 → Room (length sets) (words pairs)
    → i ≡ p.field → i < length sets → has (get_or sets i (record { word = 0 })).word p.option ≡ true
    → length trial ≡ length sets → ((y : ℕ) → y < length sets → get_or (words trial) y 0 ≡ row_word (choice (length sets) p) (words pairs) y) → length last ≡ length trial
    → Chosen (length sets) (words sets) (words pairs) (words trial) (words last) p
chosen sets pairs trial last p i fits few room e inside has_it long copied last_long = grind (arith, common_steps)

module _ (rules : List Rule) (first : List ℕ) (n : ℕ) (sets pairs trial last : List ℕ) (p : Probe) (w w₁ : Waiting) (ch : Chosen n sets pairs trial last p)
    (taken : Same (less_number w (probe_number p)) w₁) (b : Between rules first n sets pairs w) where
  abbrev x : ℕ
  x = p.field

  abbrev a : ℕ
  a = p.option

  abbrev q : Pairs
  q = pairs_of n pairs

  start_is : (y c : ℕ) → part trial y c ≡ row q x a y c
  start_is = row_part (choice n p) pairs trial ch.at ch.long b.two_way ch.copied

  -- the rules of the trial are those of the pairs
  abbrev own : List Rule
  own = pair_rules n q

  own_is : own ≡ pair_rules (length first) q
  own_is = ap (λ k. pair_rules k q) b.fields

  fields_are : length trial ≡ length first
  fields_are = ch.long ∙ b.fields

  again : (y c : ℕ) → T (probes_of w y c) → (y ≡ x → c ≡ a → ⊥) → T (probes_of w₁ y c)
  again = others_wait w w₁ x a ch.at.option taken

  module _ (s : SettledOn own trial last) where
    large : Largest (pair_rules (length first) q) (narrowed (part sets) x a) (part last)
    large = row_largest rules first (part sets) q b.underway.standing x a ch.kept trial start_is (part last) (subst (λ rs. Largest rs (part trial) (part last)) own_is s.largest)

    full : (z : ℕ) → z < length first → (c : ℕ) × T (part last z c)
    full z l = full_of last s.filled z (omega (arith, l, ch.last_long, fields_are))

  row_holds : (y c : ℕ) → T (q x a y c) → T (part trial y c)
  row_holds y c t = grind (arith, common_steps, ne_eqb, start_is)

  -- nothing is struck
  pub between_kept : Tried own trial last (Ok false) → Between rules first n sets pairs w₁ × (work sets pairs w₁ ≤ work sets pairs w₁)
  between_kept s = (
    record {
      fields = b.fields;
      long = b.long;
      two_way = b.two_way;
      underway = underway_quiet rules first (probes_of w) (probes_of w₁) (part sets) q x a (part last) b.underway ch.kept (large s.0) (full s.0)
          (λ y c t. subst (λ l. T (part l y c)) (sym s.1) (row_holds y c t)) again;
    },
    omega arith,
  )

  -- where something was struck, a pair was lost
  pub lost_fewer : (pairs' : List ℕ) → Tried own trial last (Ok true)
      → (((y : ℕ) → y < n → AllPass q x a y (part last y)) ⊎ (options pairs' < options pairs)) → options pairs' < options pairs
  lost_fewer pairs' (s, (y, (c, (there, gone)))) two =
      ⊎_elim
      (λ all. absurd (gone (still all)))
      (λ less. less)
      two
    where
      own_stays : T (part last x a)
      own_stays =
          let m = full s x (omega (arith, ch.at.field, b.fields)) in
          let same : m.0 ≡ a = narrowed_to (part sets) x a m.0 (largest_within (pair_rules (length first) q) (narrowed (part sets) x a) x m.0 ((large s).all x m.0 m.1)) in
          subst (λ d. T (part last x d)) same m.1

      still : ((y : ℕ) → y < n → AllPass q x a y (part last y)) → T (part last y c)
      still all = grind (arith, common_steps, eq-eqb, is_field, ne_eqb, own_stays, start_is)

  -- what waits once the partners are put
  module _ (w₂ : Waiting) (put : PutOn w₁ w₂) (all : (y c : ℕ) → T (q x a y c) → T (probes_of w₂ y c)) where
    later : (y c : ℕ) → T (probes_of w y c) → (y ≡ x → c ≡ a → ⊥) → T (probes_of w₂ y c)
    later y c t ne = still_waits w₁ w₂ put y c (again y c t ne)

    partners : (y c : ℕ) → T (part sets y c) → T (q y c x a) → T (probes_of w₂ y c)
    partners y c t p = all y c (b.two_way.mirrored y c x a p)

    -- pairs are lost
    pub between_lost : (pairs' : List ℕ) → SettledOn own trial last → Leaves n pairs pairs' (less_pairs q x a (part last)) → Between rules first n sets pairs' w₂
    between_lost pairs' s leaves = record {
      fields = b.fields;
      long = b.long;
      two_way = less_two_way q (pairs_of n pairs') x a (part last) b.two_way leaves.pairs;
      underway = underway_pruned rules first (probes_of w) (probes_of w₂) (part sets) q (pairs_of n pairs') x a (part last) b.underway ch.kept (large s) (full s)
          (less_pairs_is q (pairs_of n pairs') x a (part last) leaves.pairs) later partners;
    }

    -- and where something was struck, there is less to do
    pub between_lost_less : (pairs' : List ℕ) → Tried own trial last (Ok true) → Leaves n pairs pairs' (less_pairs q x a (part last))
        → (((y : ℕ) → y < n → AllPass q x a y (part last y)) ⊎ (options pairs' < options pairs))
        → Between rules first n sets pairs' w₂ × (work sets pairs' w₂ ≤ work sets pairs w₁)
    between_lost_less pairs' s leaves lost = (between_lost pairs' s.0 leaves, omega (arith, lost_fewer pairs' s lost, waits_le w₂ 512))

    -- a field is emptied
    pub between_struck : (none pairs' sets' : List ℕ) (e : Emptied) → Tried own trial last (Err e) → ((i : ℕ) → get_or none i 0 ≡ 0)
        → Leaves n pairs pairs' (less_pairs q x a (part none)) → sets' ≡ without sets x a
        → Between rules first n sets' pairs' w₂ × (work sets' pairs' w₂ ≤ work sets pairs w₁)
    between_struck none pairs' sets' e wiped empty leaves is =
        let nothing : (y c : ℕ) → T (part none y c) → ⊥ = λ y c t. T_no (has 0 c) (none_of_zero c) (subst (λ v. T (has v c)) (empty y) t) in
        let out : IsWipedOut (pair_rules (length first) q) (length first) (narrowed (part sets) x a) =
        row_wiped rules first (part sets) q b.underway.standing x a ch.kept trial start_is (subst (λ k. IsWipedOut (pair_rules (length first) q) k (part trial)) fields_are (subst (λ rs. IsWipedOut rs (length trial) (part trial)) own_is wiped)) in (
          record {
            fields = b.fields;
            long = ap length is ∙ length-set sets x _ ∙ b.long;
            two_way = less_two_way q (pairs_of n pairs') x a (part none) b.two_way leaves.pairs;
            underway = underway_struck rules first (probes_of w) (probes_of w₂) (part sets) (part sets') q (pairs_of n pairs') x a b.underway ch.kept out
                (less_option_is (part sets) (part sets') q (pairs_of n pairs') x a (part none) (λ y c. ap (λ l. part l y c) is ∙ part_without sets x a y c ch.kept) nothing leaves.pairs) later partners;
          },
          omega (arith, options_without sets x a ch.kept, ap options is, leaves.fewer, waits_le w₂ 512),
        )

-- the words beyond stay, as nothing changes
pub beyond_same : (n : ℕ) (words : List ℕ) → StayBeyond n words words
beyond_same n words = record { beyond = refl; long = refl }

-- a strike leaves the other fields as they were
pub filled_without : (sets : List ℕ) (x v : ℕ) → (v ≡ 0 → ⊥) → Filled sets → Filled (set sets x v)
filled_without sets x v ne filled z l = grind (arith, common_steps)

-- fewer options and pairs are less work, whatever waits
pub fewer_work : (sets pairs sets' pairs' : List ℕ) (w w' : Waiting) → options sets' + options pairs' < options sets + options pairs → work sets' pairs' w' ≤ work sets pairs w
fewer_work sets pairs sets' pairs' w w' h = omega (arith, waits_le w' 512)

pub same_work : (sets pairs : List ℕ) (w : Waiting) → work sets pairs w ≤ work sets pairs w
same_work sets pairs w = omega arith

-- RUNS OF PROBES
pub beyond_then : (n : ℕ) (words words₁ words₂ : List ℕ) → StayBeyond n words words₁ → StayBeyond n words₁ words₂ → StayBeyond n words words₂
beyond_then n words words₁ words₂ p q = record { beyond = q.beyond ∙ p.beyond; long = q.long ∙ p.long }

-- what waits once one was taken waited before
pub only_after : (w w' : Waiting) (n m : ℕ) → Same (less_number w n) w' → ((k : ℕ) → w k ≡ true → k < m) → (k : ℕ) → w' k ≡ true → k < m
only_after w w' n m taken only k h = grind (arith, common_steps)

pub still_room : (n m : ℕ) (words words' : List ℕ) → m ≡ n → StayBeyond n words words' → Room n words → Room m words'
still_room n m words words' e s r = omega (arith, e, s.long, r)

-- nothing waits: the end
pub ended : (rules : List Rule) (first : List ℕ) (n : ℕ) (sets pairs : List ℕ) (w : Waiting) → Between rules first n sets pairs w → Nothing w → Tightest rules first (part sets) (pairs_of n pairs)
ended rules first n sets pairs w b none = underway_end rules first (probes_of w) (part sets) (pairs_of n pairs) b.underway (λ x a t s. nothing_waits w none x a s)

-- a field is empty
pub wiped : (rules : List Rule) (first : List ℕ) (n : ℕ) (sets pairs : List ℕ) (w : Waiting) (x : ℕ) → Between rules first n sets pairs w → x < n → get_or sets x 0 ≡ 0 → TightWipedOut rules first
wiped rules first n sets pairs w x b l e =
    underway_empty rules first (probes_of w) (part sets) (pairs_of n pairs) x b.underway (omega (arith, l, b.fields))
    (λ a t. T_no (has 0 a) (none_of_zero a) (subst (λ v. T (has v a)) e t))
