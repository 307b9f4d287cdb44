-- Strike records: what they leave standing, how long they can get, and what undoing them leaves.
use Rattle.std.proofs.Common.{◌≡◌, ℕ, suc, ◌+◌, ◌-◌, ◌*◌, ◌^◌, ◌<◌, ◌≤◌, true, false, ◌&&◌, T, leb, List, [], ◌∷◌, ◌++◌, length, get_or, take, drop, set, sym, refl, ap, ◌∙◌, ⊎_elim, arith}
use lib.Count.{ones-le}
use Rattle.std.proofs.Math.Bool.{and_assoc}
use Rattle.std.proofs.lemmas.List.{length-set, get_or-set_same, get_or-set_other, set_past, set-set, set-get_or, take-append-drop, take_more, take_all}
use Rattle.std.proofs.lemmas.Bool.{cases_lt, cases_eq, and_parts, and_from, leb-true, le-leb}
use Rattle.network.specs.Network.{option_limit, field_limit, part, Rule}
use Rattle.network.specs.Sets.{set_with}
use Rattle.network.proofs.Truth.{yes_T, T_yes}
use Rattle.network.proofs.Masks.{put_back, without_is}
use Rattle.propagation.specs.Strikes.{without, left_by, options, Struck}
use Rattle.propagation.specs.declared.record.Strike.{Strike}
use Rattle.propagation.specs.declared.record.Decision.{Decision}
use Rattle.propagation.specs.Progress.{Filled}
use Rattle.propagation.specs.Undo.{Fit, put_all}
use Rattle.draft.specs.Sound.{stood, first_mark, rising, record_limit}
use Rattle.draft.specs.declared.types.Taken.{Taken}
use Rattle.propagation.proofs.Strikes.{is_field, options_without}
use Rattle.draft.proofs.Sets.{fit_without}

pub length_left_by : (sets : List ℕ) (ss : List Strike) → length (left_by sets ss) ≡ length sets
length_left_by sets [] = refl
length_left_by sets (s ∷ rest) = length_left_by (without sets s.field s.option) rest ∙ length-set sets s.field _

pub fit_left_by : (sets : List ℕ) (ss : List Strike) → Fit sets → Fit (left_by sets ss)
fit_left_by sets [] fit = fit
fit_left_by sets (s ∷ rest) fit =
    fit_left_by (without sets s.field s.option) rest (fit_without sets s.field s.option (2 ^ option_limit) fit)

pub left_by_append : (sets : List ℕ) (ss ts : List Strike) → left_by sets (ss ++ ts) ≡ left_by (left_by sets ss) ts
left_by_append sets [] ts = refl
left_by_append sets (s ∷ rest) ts = left_by_append (without sets s.field s.option) rest ts

-- strikes only take options away
without_le : (sets : List ℕ) (x a y : ℕ) → get_or (without sets x a) y 0 ≤ get_or sets y 0
without_le sets x a y =
    ⊎_elim
    (λ (e : y ≡ x). ⊎_elim
    (λ (l : x < length sets). let same = ap (λ z. get_or (without sets x a) z 0) e ∙ get_or-set_same sets x (get_or sets x 0 - 2 ^ a) 0 l in let at = ap (λ z. get_or sets z 0) e in omega arith)
    (λ (l : length sets ≤ x). let same = ap (λ v. get_or v y 0) (set_past sets x (get_or sets x 0 - 2 ^ a) l) in omega arith)
    (cases_lt x (length sets)))
    (λ (n : y ≡ x → ⊥). let same = get_or-set_other sets x y (get_or sets x 0 - 2 ^ a) 0 n in omega arith)
    (cases_eq y x)

pub left_by_le : (sets : List ℕ) (ss : List Strike) (y : ℕ) → get_or (left_by sets ss) y 0 ≤ get_or sets y 0
left_by_le sets [] y = omega arith
left_by_le sets (s ∷ rest) y =
    let more = left_by_le (without sets s.field s.option) rest y in
    let one = without_le sets s.field s.option y in
    omega arith

pub stood_append : (sets : List ℕ) (ss ts : List Strike) → stood sets (ss ++ ts) ≡ (stood sets ss && stood (left_by sets ss) ts)
stood_append sets [] ts = refl
stood_append sets (s ∷ rest) ts =
    ap (λ b. part sets s.field s.option && b) (stood_append (without sets s.field s.option) rest ts) ∙
    sym (and_assoc (part sets s.field s.option) (stood (without sets s.field s.option) rest) (stood (left_by (without sets s.field s.option) rest) ts))

pub struck_all_stood : (rules : List Rule) (ds : List Decision) (sets : List ℕ) (ss : List Strike) (last : List ℕ) → Struck rules ds sets ss last → stood sets ss ≡ true
struck_all_stood rules ds sets [] last h = refl
struck_all_stood rules ds sets (s ∷ rest) last h =
    and_from _ _ (yes_T (part sets s.field s.option) h.0) (struck_all_stood rules ds (without sets s.field s.option) rest last h.1.1)

-- the record and what stands account for every option of the opening
pub options_left : (sets : List ℕ) (ss : List Strike) → stood sets ss ≡ true → options (left_by sets ss) + length ss ≡ options sets
options_left sets [] h = omega arith
options_left sets (s ∷ rest) h =
    let p = and_parts (part sets s.field s.option) (stood (without sets s.field s.option) rest) h in
    omega (arith, options_left (without sets s.field s.option) rest p.1, options_without sets s.field s.option (T_yes _ p.0))

pub options_bound : (sets : List ℕ) → Fit sets → options sets ≤ option_limit * length sets
options_bound [] fit = omega arith
options_bound (w ∷ ws) fit = omega (arith, options_bound ws (λ x. fit (suc x)), ones-le option_limit w (fit 0))

pub record_bound : (sets : List ℕ) (ss : List Strike) → length sets ≤ field_limit → Fit sets → stood sets ss ≡ true → length ss ≤ record_limit
record_bound sets ss few fit h = omega (arith, options_left sets ss h, options_bound sets fit, few)

-- marks
first_mark_push : (ts : List Taken) (t : Taken) (top : ℕ) → first_mark (ts ++ t ∷ []) top ≡ first_mark ts t.mark
first_mark_push [] t top = refl
first_mark_push (u ∷ ts) t top = refl

pub rising_push : (ts : List Taken) (t : Taken) (top : ℕ) → rising (ts ++ t ∷ []) top ≡ (rising ts t.mark && leb t.mark top)
rising_push [] t top = elim (leb t.mark top) as (λ b. (b && true) ≡ b) [ true ↦ refl | false ↦ refl ]
rising_push (u ∷ ts) t top =
    ap (λ m. leb u.mark m && rising (ts ++ t ∷ []) top) (first_mark_push ts t top) ∙
    ap (λ b. leb u.mark (first_mark ts t.mark) && b) (rising_push ts t top) ∙
    sym (and_assoc (leb u.mark (first_mark ts t.mark)) (rising ts t.mark) (leb t.mark top))

-- the marks under a longer record
pub rising_longer : (ts : List Taken) (top more : ℕ) → top ≤ more → rising ts top ≡ true → rising ts more ≡ true
rising_longer [] top more l h = refl
rising_longer (t ∷ []) top more l h =
    let p = and_parts (leb t.mark top) true h in
    let m = leb-true t.mark top p.0 in
    and_from (leb t.mark more) true (le-leb t.mark more (omega arith)) refl
rising_longer (t ∷ u ∷ ts) top more l h =
    let p = and_parts (leb t.mark u.mark) (rising (u ∷ ts) top) h in
    and_from (leb t.mark u.mark) (rising (u ∷ ts) more) p.0 (rising_longer (u ∷ ts) top more l p.1)

-- the marks with the latest decision dropped
pub rising_drop : (ts : List Taken) (top : ℕ) (d : Taken) → 0 < length ts → rising ts top ≡ true → (rising (take (length ts - 1) ts) (get_or ts (length ts - 1) d).mark ≡ true) × ((get_or ts (length ts - 1) d).mark ≤ top)
rising_drop ts top d lt h =
    let n : ℕ = length ts - 1 in
    let t : Taken = get_or ts n d in
    let e : take (n + 1) ts ≡ take n ts ++ t ∷ [] = take_more ts n d (omega arith) in
    let all : take (n + 1) ts ≡ ts = take_all (n + 1) ts (omega arith) in
    let p = and_parts (rising (take n ts) t.mark) (leb t.mark top) (sym (rising_push (take n ts) t top) ∙ ap (λ v. rising v top) (sym e ∙ all) ∙ h) in
    (p.0, leb-true t.mark top p.1)

-- what is struck and put back, the latest first, is as it was
put_all_undoes : (sets : List ℕ) (ss : List Strike) → Fit sets → stood sets ss ≡ true → put_all (left_by sets ss) ss ≡ sets
put_all_undoes sets [] fit h = refl
put_all_undoes sets (s ∷ rest) fit h =
    let x : ℕ = s.field in
    let a : ℕ = s.option in
    let w : ℕ = get_or sets x 0 in
    let p = and_parts (part sets x a) (stood (without sets x a) rest) h in
    let here : T (part sets x a) = T_yes _ p.0 in
    ap (λ v. set v x (set_with (get_or v x 0) a)) (put_all_undoes (without sets x a) rest (fit_without sets x a (2 ^ option_limit) fit) p.1) ∙
    set-set sets x (w - 2 ^ a) (set_with (get_or (without sets x a) x 0) a) ∙
    ap (λ v. set sets x (set_with v a)) (get_or-set_same sets x (w - 2 ^ a) 0 (is_field sets x a here) ∙ sym (without_is w a here)) ∙
    ap (λ v. set sets x v) (put_back w a (fit x) here) ∙
    set-get_or sets x 0

-- a record cut at a mark
module _ (sets : List ℕ) (ss : List Strike) (m : ℕ) where
  left_by_cut : left_by sets ss ≡ left_by (left_by sets (take m ss)) (drop m ss)
  left_by_cut = ap (λ v. left_by sets v) (sym (take-append-drop m ss)) ∙ left_by_append sets (take m ss) (drop m ss)

  pub filled_front : Filled (left_by sets ss) → Filled (left_by sets (take m ss))
  filled_front f x l =
      let long : length (left_by sets ss) ≡ length (left_by sets (take m ss)) = length_left_by sets ss ∙ sym (length_left_by sets (take m ss)) in
      let less = left_by_le (left_by sets (take m ss)) (drop m ss) x in
      let same = ap (λ v. get_or v x 0) left_by_cut in
      let some = f x (omega arith) in
      omega arith

  module _ (fit : Fit sets) (h : stood sets ss ≡ true) where
    cut : (stood sets (take m ss) && stood (left_by sets (take m ss)) (drop m ss)) ≡ true
    cut = sym (ap (λ v. stood sets v) (sym (take-append-drop m ss)) ∙ stood_append sets (take m ss) (drop m ss)) ∙ h

    pub stood_front : stood sets (take m ss) ≡ true
    stood_front = (and_parts (stood sets (take m ss)) (stood (left_by sets (take m ss)) (drop m ss)) cut).0

    pub put_back_cut : put_all (left_by sets ss) (drop m ss) ≡ left_by sets (take m ss)
    put_back_cut =
        ap (λ v. put_all v (drop m ss)) left_by_cut ∙
        put_all_undoes (left_by sets (take m ss)) (drop m ss) (fit_left_by sets (take m ss) fit)
        (and_parts (stood sets (take m ss)) (stood (left_by sets (take m ss)) (drop m ss)) cut).1
