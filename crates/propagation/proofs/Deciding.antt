-- Deciding the largest part of given sets: strikes whose causes are tested, and a part that is tested to be arc-consistent.
use Rattle.std.proofs.Common.{◌≡◌, ℕ, zero, suc, ◌^◌, ◌<◌, Bool, true, false, not, ◌&&◌, ◌||◌, T, eqb, ltb, ◌⊎◌, List, [], ◌∷◌, length, get_or, sym, refl, subst, inl, inr, arith, lit<, eqb→eq, ltb→lt}
use Rattle.std.proofs.lemmas.Bool.{cases_eq}
use Rattle.network.specs.Network.{has, Rule, part, ArcConsistent, Largest, option_limit}
use Rattle.network.specs.declared.rules.Side.{Side}
use Rattle.network.specs.declared.rules.Side.TheVariants.{Left, Right}
use Rattle.network.proofs.Truth.{T_no, T_left, T_right, and_T}
use Rattle.network.proofs.Bits.{has_below, none_of_zero}
use Rattle.propagation.specs.Strikes.{without, left_by, UnsupportedAt, Holds, Struck}
use Rattle.propagation.specs.Opening.{Emptied}
use Rattle.propagation.specs.Undo.{Fit}
use Rattle.propagation.specs.Arcs.{own, across, pairs, Supported, ArcOk}
use Rattle.propagation.specs.declared.record.Cause.{Cause}
use Rattle.propagation.specs.declared.record.Cause.TheVariants.{Decided, Unsupported}
use Rattle.propagation.specs.declared.record.Strike.{Strike}
use Rattle.propagation.proofs.Strikes.{keeps, shrinks}
use Rattle.propagation.proofs.Steps.{unsupported_by}
use Rattle.propagation.proofs.Undoing.{fit_without}

-- a test of the numbers below n
unfoldable pub some_below : (ℕ → Bool) → ℕ → Bool
some_below test zero = false
some_below test (suc n) = test n || some_below test n

unfoldable pub each_below : (ℕ → Bool) → ℕ → Bool
each_below test zero = true
each_below test (suc n) = test n && each_below test n

or_sides : (a b : Bool) → T (a || b) → T a ⊎ T b
or_sides true b t = inl tt
or_sides false b t = inr t

or_first : (a b : Bool) → T a → T (a || b)
or_first true b t = tt
or_first false b t = absurd t

or_second : (a b : Bool) → T b → T (a || b)
or_second true b t = tt
or_second false b t = t

not_T : (a : Bool) → T (not a) → T a → ⊥
not_T true t s = t
not_T false t s = s

some_is : (test : ℕ → Bool) (n : ℕ) → T (some_below test n) → (b : ℕ) × T (test b)
unfolding some_below
some_is test zero t = absurd t
some_is test (suc n) t = elim (or_sides (test n) (some_below test n) t) [ inl h ↦ (n, h) | inr h ↦ some_is test n h ]

is_some : (test : ℕ → Bool) (n b : ℕ) → b < n → T (test b) → T (some_below test n)
unfolding some_below
is_some test zero b lt t = absurd (omega arith)
is_some test (suc n) b lt t =
    elim (cases_eq b n) [
      | inl e ↦ or_first (test n) _ (subst (λ k. T (test k)) e t)
      | inr ne ↦ or_second (test n) _ (is_some test n b (omega arith) t)
    ]

each_is : (test : ℕ → Bool) (n b : ℕ) → b < n → T (each_below test n) → T (test b)
unfolding each_below
each_is test zero b lt t = absurd (omega arith)
each_is test (suc n) b lt t =
    elim (cases_eq b n) [
      | inl e ↦ subst (λ k. T (test k)) (sym e) (T_left (test n) _ t)
      | inr ne ↦ each_is test n b (omega arith) (T_right (test n) _ t)
    ]

-- whether an option has a partner across
unfoldable pub supported : List Rule → List ℕ → Side → ℕ → ℕ → Bool
supported rules sets side r a = some_below (λ b. pairs rules side r a b && part sets (across rules side r) b) option_limit

module _ (rules : List Rule) (sets : List ℕ) (side : Side) (r a : ℕ) where
  supported_T : T (supported rules sets side r a) → Supported rules (part sets) side r a
  unfolding supported
  supported_T t =
      let found = some_is (λ b. pairs rules side r a b && part sets (across rules side r) b) option_limit t in
      (found.0, (T_left (pairs rules side r a found.0) _ found.1, T_right (pairs rules side r a found.0) _ found.1))

  T_supported : Fit sets → Supported rules (part sets) side r a → T (supported rules sets side r a)
  unfolding supported
  T_supported fit (b, (t, k)) =
      is_some (λ b. pairs rules side r a b && part sets (across rules side r) b) option_limit b
      (has_below option_limit (get_or sets (across rules side r) 0) b (fit (across rules side r)) k) (and_T (pairs rules side r a b) _ t k)

-- whether an arc is consistent, and whether all are
unfoldable pub arc_passes : List Rule → List ℕ → Side → ℕ → Bool
arc_passes rules sets side r = each_below (λ a. not (part sets (own rules side r) a) || supported rules sets side r a) option_limit

unfoldable pub all_pass : List Rule → List ℕ → Bool
all_pass rules sets = each_below (λ r. arc_passes rules sets Left r && arc_passes rules sets Right r) (length rules)

arc_ok : (rules : List Rule) (sets : List ℕ) (side : Side) (r : ℕ) → Fit sets → T (arc_passes rules sets side r) → ArcOk rules (part sets) side r
unfolding arc_passes
arc_ok rules sets side r fit t a here =
    let small = has_below option_limit (get_or sets (own rules side r) 0) a (fit (own rules side r)) here in
    let either = or_sides (not (part sets (own rules side r) a)) _ (each_is (λ a. not (part sets (own rules side r) a) || supported rules sets side r a) option_limit a small t) in
    elim either [ inl out ↦ absurd (not_T (part sets (own rules side r) a) out here) | inr k ↦ supported_T rules sets side r a k ]

consistent : (rules : List Rule) (sets : List ℕ) → Fit sets → T (all_pass rules sets) → ArcConsistent rules (part sets)
unfolding all_pass
consistent rules sets fit t =
    let both = λ (r : ℕ) (lt : r < length rules). each_is (λ r. arc_passes rules sets Left r && arc_passes rules sets Right r) (length rules) r lt t in
    record {
      on_left = λ r a lt h. arc_ok rules sets Left r fit (T_left (arc_passes rules sets Left r) _ (both r lt)) a h;
      on_right = λ r b lt h. arc_ok rules sets Right r fit (T_right (arc_passes rules sets Left r) _ (both r lt)) b h;
    }

-- whether the cause of a strike is want of a partner, and holds
unfoldable pub cause_passes : List Rule → List ℕ → ℕ → ℕ → Cause → Bool
cause_passes rules sets x a (Decided d) = false
cause_passes rules sets x a (Unsupported r side) = ltb r (length rules) && (eqb x (own rules side r) && not (supported rules sets side r a))

holds : (rules : List Rule) (sets : List ℕ) (x a : ℕ) (cause : Cause) → Fit sets → T (cause_passes rules sets x a cause) → Holds rules [] sets x a cause
unfolding cause_passes
holds rules sets x a (Decided d) fit t = absurd t
holds rules sets x a (Unsupported r side) fit t =
    let lt = ltb→lt r (length rules) (T_left (ltb r (length rules)) _ t) in
    let rest = T_right (ltb r (length rules)) _ t in
    let field = eqb→eq x (own rules side r) (T_left (eqb x (own rules side r)) _ rest) in
    let alone = not_T (supported rules sets side r a) (T_right (eqb x (own rules side r)) _ rest) in
    (lt, subst (λ z. UnsupportedAt rules (part sets) side r z a) (sym field) (unsupported_by rules (part sets) side r a (λ k. alone (T_supported rules sets side r a fit k))))

-- whether every strike can be made, one after the other
unfoldable pub strikes_pass : List Rule → List ℕ → List Strike → Bool
strikes_pass rules sets [] = true
strikes_pass rules sets (s ∷ rest) =
    part sets s.field s.option && (cause_passes rules sets s.field s.option s.cause && strikes_pass rules (without sets s.field s.option) rest)

struck : (rules : List Rule) (sets : List ℕ) (found : List Strike) → Fit sets → T (strikes_pass rules sets found) → Struck rules [] sets found (left_by sets found)
unfolding strikes_pass
struck rules sets [] fit t = refl
struck rules sets (s ∷ rest) fit t =
    let stands = T_left (part sets s.field s.option) _ t in
    let more = T_right (part sets s.field s.option) _ t in (
      stands,
      (
        holds rules sets s.field s.option s.cause fit (T_left (cause_passes rules sets s.field s.option s.cause) _ more),
        struck rules (without sets s.field s.option) rest (fit_without sets s.field s.option stands fit) (T_right (cause_passes rules sets s.field s.option s.cause) _ more),
      ),
    )

-- whether all sets fit
unfoldable pub all_fit : List ℕ → Bool
all_fit [] = true
all_fit (w ∷ ws) = ltb w (2 ^ option_limit) && all_fit ws

fits : (sets : List ℕ) → T (all_fit sets) → Fit sets
unfolding all_fit
fits [] t x = lit< tt
fits (w ∷ ws) t zero = ltb→lt w (2 ^ option_limit) (T_left (ltb w (2 ^ option_limit)) _ t)
fits (w ∷ ws) t (suc x) = fits ws (T_right (ltb w (2 ^ option_limit)) _ t) x

-- strikes that can be made and leave an arc-consistent part leave the largest
pub decided : (rules : List Rule) (sets : List ℕ) (found : List Strike) → T (all_fit sets) → T (strikes_pass rules sets found) → T (all_fit (left_by sets found)) → T (all_pass rules (left_by sets found)) → Largest rules (part sets) (part (left_by sets found))
decided rules sets found f s g ac =
    let last = left_by sets found in
    let led = struck rules sets found (fits sets f) s in
    record {
      all = λ x a t. (part last, (shrinks rules [] found sets last led, (consistent rules last (fits last g) ac, t)));
      only = λ x a h. keeps rules found sets last led h.0 h.1.0 h.1.1.0 x a h.1.1.1;
    }

-- strikes that leave a field empty
pub decided_empty : (rules : List Rule) (sets : List ℕ) (found : List Strike) (x : ℕ) → T (all_fit sets) → T (strikes_pass rules sets found) → get_or (left_by sets found) x 0 ≡ 0 → Emptied rules (part sets) x
decided_empty rules sets found x f s e a (p, (w, (ac, t))) =
    T_no (has 0 a) (none_of_zero a) (subst (λ u. T (has u a)) e (keeps rules found sets (left_by sets found) (struck rules sets found (fits sets f) s) p w ac x a t))
