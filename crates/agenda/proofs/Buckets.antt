-- The sets of an agenda by urgency.
use Rattle.std.proofs.Common.{◌≡◌, ◌≢◌, ℕ, ◌<◌, true, false, cond, eqb, List, [], ◌∷◌, length, get_or, set, replicate, is_some, Some, None, Option, sym, refl, ◌∙◌, inl, inr, arith}
use Rattle.std.proofs.lemmas.Bool.{cases_eq, cases_lt, eq-eqb, ne_eqb, lt-ltb}
use Rattle.std.proofs.lemmas.Bool.Decides.{nat_tests}
use Rattle.std.proofs.lemmas.List.{get_or-set_same, get_or-set_other, get_or-replicate, get_or_past, length-replicate}
use Rattle.agenda.specs.Waiting.{number_limit, Nothing, Same, with_one, without}
use Rattle.agenda.specs.Sequence.{first_of, rising}
use Rattle.agenda.specs.Numbered.{numbers, no_numbers}
use Rattle.agenda.specs.Urgent.{Urgencies, listed, is_at, urgent, urgency_limit, in_order, with_urgency}
use Rattle.agenda.specs.declared.numbers.NumberSet.{NumberSet}
use Rattle.agenda.specs.declared.lowest.LowestUrgency.{LowestUrgency}
use Rattle.agenda.proofs.Risings.{rising_none, rising_same, rising_found, rising_empty, rising_some}
use Rattle.agenda.proofs.Urgencies.{Within, is_at_true, at_some, some_is, others_keep, new_has, old_lacks, order_none, order_first}

pub listed_set : (us : List (Option ℕ)) (n : ℕ) (o : Option ℕ) → n < length us → (k : ℕ) → listed (set us n o) k ≡ cond (eqb k n) o (listed us k)
listed_set us n o lt k =
    grind (arith, nat_tests, get_or-set_same us n o None lt, get_or-set_other us n k o None)

pub entered : (us : List (Option ℕ)) (n v : ℕ) → n < length us → n < number_limit → (k : ℕ) → listed (set us n (Some v)) k ≡ with_urgency (listed us) n v k
entered us n v within lt k = listed_set us n (Some v) within k ∙ rw (lt-ltb n number_limit lt)

-- what an agenda keeps true of urgencies u, of the sets by urgency and of the busy urgencies
abbrev pub Kept : List NumberSet → NumberSet → Urgencies → Type 0
Kept sets busy u =
    Within u
    × ((v k : ℕ) → v < urgency_limit → numbers (get_or sets v no_numbers) k ≡ urgent u v k)
    × ((v : ℕ) → numbers busy v ≡ is_some (first_of (rising (urgent u v) number_limit)))

-- one number's urgency changes from or to v: the set of v changes with it, and the busy urgencies at v alone
module _ (l : LowestUrgency) (u : Urgencies) (n v : ℕ) (o : Option ℕ) (sets : length l.buckets ≡ 256) (lt : n < number_limit) (small : v < urgency_limit)
    (is : (k : ℕ) → u k ≡ cond (eqb k n) o (listed l.urgencies k)) (b busy : NumberSet) where
  changed : ((x : ℕ) → x ≢ v → is_at o x ≡ false) → ((x : ℕ) → x ≢ v → is_at (listed l.urgencies n) x ≡ false) → Same (urgent u v) (numbers b) →
      ((x : ℕ) → x ≢ v → numbers busy x ≡ numbers l.busy x) → numbers busy v ≡ is_some (first_of (rising (urgent u v) number_limit)) →
      Kept (set l.buckets v b) busy u
  changed new old here others shown =
      let keeps : (x : ℕ) → x ≢ v → Same (urgent (listed l.urgencies) x) (urgent u x) = λ x ne. others_keep (listed l.urgencies) u n o is x (new x ne) (old x ne) in (
        λ k x e. grind (arith, nat_tests, is k, new x, at_some o x, l.within k x),
        λ x k h. elim (cases_eq x v) [
          | inl e ↦ rw (e, get_or-set_same l.buckets v b no_numbers (omega arith)) (here k)
          | inr ne ↦ rw (get_or-set_other l.buckets v x b no_numbers ne) (l.filed x k h ∙ sym (keeps x ne k))
        ],
        λ x. elim (cases_eq x v) [
          | inl e ↦ rw e shown
          | inr ne ↦ rw (rising_same (urgent (listed l.urgencies) x) (urgent u x) number_limit (keeps x ne)) (others x ne ∙ l.shown x)
        ],
      )

-- n, which does not wait, enters the set of v
module _ (l : LowestUrgency) (n v : ℕ) (size : length l.urgencies ≡ 512) (sets : length l.buckets ≡ 256) (lt : n < number_limit) (small : v < urgency_limit)
    (off : listed l.urgencies n ≡ None) where
  pub enters : (b busy : NumberSet) → Same (with_one (numbers (get_or l.buckets v no_numbers)) n) (numbers b) → Same (with_one (numbers l.busy) v) (numbers busy) →
      Kept (set l.buckets v b) busy (listed (set l.urgencies n (Some v)))
  enters b busy into shown =
      let u : Urgencies = listed (set l.urgencies n (Some v)) in
      let is : (k : ℕ) → u k ≡ cond (eqb k n) (Some v) (listed l.urgencies k) = listed_set l.urgencies n (Some v) (omega arith) in
      let has : Same (with_one (urgent (listed l.urgencies) v) n) (urgent u v) = new_has (listed l.urgencies) u n (Some v) is v refl in
      changed l u n v (Some v) sets lt small is b busy
      (λ x ne. ne_eqb v x (λ e. ne (sym e)))
      (λ x ne. rw off)
      (λ k. into k ∙ rw (l.filed v k small) (sym (has k)))
      (λ x ne. shown x ∙ rw (ne_eqb x v ne))
      (shown v ∙ rw (eq-eqb v v refl) (sym (rising_some (urgent u v) number_limit n lt (has n ∙ rw (eq-eqb n n refl)))))

-- n, which waits, leaves the set of its urgency v
module _ (l : LowestUrgency) (n v : ℕ) (size : length l.urgencies ≡ 512) (sets : length l.buckets ≡ 256) (lt : n < number_limit) (on : listed l.urgencies n ≡ Some v)
    (b : NumberSet) (out : Same (without (numbers (get_or l.buckets v no_numbers)) n) (numbers b)) where
  leaves : (busy : NumberSet) → ((x : ℕ) → x ≢ v → numbers busy x ≡ numbers l.busy x) → numbers busy v ≡ is_some (first_of (rising (numbers b) number_limit)) →
      Kept (set l.buckets v b) busy (listed (set l.urgencies n None))
  leaves busy others shown =
      let u : Urgencies = listed (set l.urgencies n None) in
      let is : (k : ℕ) → u k ≡ cond (eqb k n) None (listed l.urgencies k) = listed_set l.urgencies n None (omega arith) in
      let small : v < urgency_limit = (l.within n v on).1 in
      let left : Same (urgent u v) (numbers b) = λ k. out k ∙ rw (l.filed v k small) (sym (old_lacks (listed l.urgencies) u n None is v refl k)) in
      changed l u n v None sets lt small is b busy
      (λ x ne. refl)
      (λ x ne. rw on (ne_eqb v x (λ e. ne (sym e))))
      left others
      (shown ∙ rw (rising_same (urgent u v) (numbers b) number_limit left))

  -- it was the last one there
  pub leaves_none : is_some (first_of (rising (numbers b) number_limit)) ≡ false → (busy : NumberSet) → Same (without (numbers l.busy) v) (numbers busy) →
      Kept (set l.buckets v b) busy (listed (set l.urgencies n None))
  leaves_none last busy shown = leaves busy (λ x ne. shown x ∙ rw (ne_eqb x v ne)) (shown v ∙ rw (eq-eqb v v refl) (sym last))

  -- others stay
  pub leaves_some : is_some (first_of (rising (numbers b) number_limit)) ≡ true → Kept (set l.buckets v b) l.busy (listed (set l.urgencies n None))
  leaves_some more = leaves l.busy (λ x ne. refl) (l.shown v ∙ rising_some (urgent (listed l.urgencies) v) number_limit n lt (at_some (listed l.urgencies n) v on) ∙ sym more)

no_first : (ns : List ℕ) → is_some (first_of ns) ≡ false → ns ≡ []
no_first [] e = refl
no_first (n ∷ ns) e = cc

-- where no urgency is busy, nothing waits
pub idle_order : (l : LowestUrgency) → first_of (rising (numbers l.busy) number_limit) ≡ None → in_order (listed l.urgencies) ≡ []
idle_order l idle =
    order_none (listed l.urgencies) urgency_limit
    (λ v h. no_first (rising (urgent (listed l.urgencies) v) number_limit) (sym (l.shown v) ∙ rising_empty (numbers l.busy) number_limit idle v (omega arith)))

-- v is the lowest busy urgency
module _ (l : LowestUrgency) (v : ℕ) (busy : first_of (rising (numbers l.busy) number_limit) ≡ Some v) where
  there : (n : ℕ) × (first_of (rising (urgent (listed l.urgencies) v) number_limit) ≡ Some n)
  there = some_is (first_of (rising (urgent (listed l.urgencies) v) number_limit)) (sym (l.shown v) ∙ (rising_found (numbers l.busy) number_limit v busy).0)

  pub lowest_small : v < urgency_limit
  lowest_small = (l.within there.0 v (is_at_true (listed l.urgencies there.0) v (rising_found (urgent (listed l.urgencies) v) number_limit there.0 there.1).0)).1

  pub lowest_order : first_of (rising (numbers (get_or l.buckets v no_numbers)) number_limit) ≡ first_of (in_order (listed l.urgencies))
  lowest_order =
      rw (rising_same (urgent (listed l.urgencies) v) (numbers (get_or l.buckets v no_numbers)) number_limit (λ k. l.filed v k lowest_small)) there.1
      ∙ sym (order_first (listed l.urgencies) v there.0 urgency_limit lowest_small
      (λ x h. no_first (rising (urgent (listed l.urgencies) x) number_limit) (sym (l.shown x) ∙ (rising_found (numbers l.busy) number_limit v busy).2 x h)) there.1)

-- an agenda on which nothing waits
pub listed_none : (m k : ℕ) → listed (replicate m None) k ≡ None
listed_none m k =
    elim (cases_lt k m) [
      | inl lt ↦ get_or-replicate m k None None lt
      | inr past ↦ get_or_past (replicate m None) k None (omega (arith, length-replicate {A = Option ℕ} m None))
    ]

pub kept_new : (b busy : NumberSet) (m : ℕ) → Nothing (numbers b) → Nothing (numbers busy) → Kept (replicate urgency_limit b) busy (listed (replicate m None))
kept_new b busy m empty quiet = (
  λ k v e. let none = listed_none m k in cc,
  λ v k h. rw (get_or-replicate urgency_limit v b no_numbers h, listed_none m k) (empty k),
  λ v. quiet v ∙ rw (rising_none (urgent (listed (replicate m None)) v) number_limit (λ k h. rw (listed_none m k))),
)
