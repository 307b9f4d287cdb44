-- What a list of strikes leads to.
use Rattle.std.proofs.Common.{◌≡◌, ℕ, zero, suc, ◌+◌, ◌<◌, T, List, [], ◌∷◌, ◌++◌, length, get_or, take, sym, ap, ◌∙◌, subst, arith}
use Rattle.std.proofs.lemmas.List.{length-set, length-append, get_or_append_left}
use Rattle.network.specs.Network.{part, Rule, Within}
use Rattle.network.proofs.Truth.{T_left}
use Rattle.propagation.specs.Strikes.{without, options, left_by, Struck, Holds, InForce}
use Rattle.propagation.specs.declared.record.Strike.{Strike}
use Rattle.propagation.specs.declared.record.Decision.{Decision}
use Rattle.propagation.specs.declared.record.Cause.{Cause}
use Rattle.propagation.specs.declared.record.Cause.TheVariants.{Decided, Unsupported}
use Rattle.propagation.proofs.Strikes.{options_without, struck_gone as not_there}
use Rattle.draft.proofs.Sets.{part_without, fit_without}

module _ (rules : List Rule) (ds : List Decision) where
  pub struck_left : (sets : List ℕ) (xs : List Strike) (last : List ℕ) → Struck rules ds sets xs last → last ≡ left_by sets xs
  struck_left sets [] last h = h
  struck_left sets (s ∷ xs) last h = struck_left (without sets s.field s.option) xs last h.1.1

  pub struck_options : (sets : List ℕ) (xs : List Strike) (last : List ℕ) → Struck rules ds sets xs last → options last + length xs ≡ options sets
  struck_options sets [] last h = omega (arith, ap options h)
  struck_options sets (s ∷ xs) last h =
      let r = struck_options (without sets s.field s.option) xs last h.1.1 in omega (arith, options_without sets s.field s.option h.0)

  pub struck_length : (sets : List ℕ) (xs : List Strike) (last : List ℕ) → Struck rules ds sets xs last → length last ≡ length sets
  struck_length sets [] last h = ap length h
  struck_length sets (s ∷ xs) last h = struck_length (without sets s.field s.option) xs last h.1.1 ∙ length-set sets s.field _

  pub struck_fit : (k : ℕ) (sets : List ℕ) (xs : List Strike) (last : List ℕ) → Struck rules ds sets xs last → ((y : ℕ) → get_or sets y 0 < k) → (y : ℕ) → get_or last y 0 < k
  struck_fit k sets [] last h f y = subst (λ s. get_or s y 0 < k) (sym h) (f y)
  struck_fit k sets (s ∷ xs) last h f y = struck_fit k (without sets s.field s.option) xs last h.1.1 (fit_without sets s.field s.option k f) y

  pub struck_within : (sets : List ℕ) (xs : List Strike) (last : List ℕ) → Struck rules ds sets xs last → Within (part last) (part sets)
  struck_within sets [] last h y b t = subst (λ s. T (part s y b)) h t
  struck_within sets (s ∷ xs) last h y b t =
      T_left _ _ (subst T (part_without sets s.field s.option y b h.0) (struck_within (without sets s.field s.option) xs last h.1.1 y b t))

  pub struck_gone : (sets : List ℕ) (xs : List Strike) (last : List ℕ) → Struck rules ds sets xs last
      → (i : ℕ) (d : Strike) → i < length xs → T (part last (get_or xs i d).field (get_or xs i d).option) → ⊥
  struck_gone sets [] last h i d l t = omega arith
  struck_gone sets (s ∷ xs) last h zero d l t =
      not_there sets s.field s.option h.0 (struck_within (without sets s.field s.option) xs last h.1.1 s.field s.option t)
  struck_gone sets (s ∷ xs) last h (suc i) d l t = struck_gone (without sets s.field s.option) xs last h.1.1 i d (omega arith) t

  pub struck_stood : (sets : List ℕ) (xs : List Strike) (last : List ℕ) → Struck rules ds sets xs last
      → (i : ℕ) (d : Strike) → i < length xs → T (part sets (get_or xs i d).field (get_or xs i d).option)
  struck_stood sets [] last h i d l = absurd (omega arith)
  struck_stood sets (s ∷ xs) last h zero d l = h.0
  struck_stood sets (s ∷ xs) last h (suc i) d l =
      T_left _ _ (subst T (part_without sets s.field s.option (get_or xs i d).field (get_or xs i d).option h.0)
      (struck_stood (without sets s.field s.option) xs last h.1.1 i d (omega arith)))

  pub struck_once : (sets : List ℕ) (xs : List Strike) (last : List ℕ) → Struck rules ds sets xs last
      → (i j : ℕ) (d : Strike) → i < j → j < length xs → (get_or xs i d).field ≡ (get_or xs j d).field → (get_or xs i d).option ≡ (get_or xs j d).option → ⊥
  struck_once sets [] last h i j d l m e f = omega arith
  struck_once sets (s ∷ xs) last h i zero d l m e f = omega arith
  struck_once sets (s ∷ xs) last h zero (suc j) d l m e f =
      not_there sets s.field s.option h.0
      (subst (λ x. T (part (without sets s.field s.option) x s.option)) (sym e)
      (subst (λ a. T (part (without sets s.field s.option) (get_or xs j d).field a)) (sym f)
      (struck_stood (without sets s.field s.option) xs last h.1.1 j d (omega arith))))
  struck_once sets (s ∷ xs) last h (suc i) (suc j) d l m e f =
      struck_once (without sets s.field s.option) xs last h.1.1 i j d (omega arith) (omega arith) e f

  pub struck_caused : (sets : List ℕ) (xs : List Strike) (last : List ℕ) → Struck rules ds sets xs last
      → (i : ℕ) (d : Strike) → i < length xs → Holds rules ds (left_by sets (take i xs)) (get_or xs i d).field (get_or xs i d).option (get_or xs i d).cause
  struck_caused sets [] last h i d l = absurd (omega arith)
  struck_caused sets (s ∷ xs) last h zero d l = h.1.0
  struck_caused sets (s ∷ xs) last h (suc i) d l = struck_caused (without sets s.field s.option) xs last h.1.1 i d (omega arith)

  pub struck_append : (sets : List ℕ) (xs ys : List Strike) (mid last : List ℕ) → Struck rules ds sets xs mid → Struck rules ds mid ys last → Struck rules ds sets (xs ++ ys) last
  struck_append sets [] ys mid last h k = subst (λ s. Struck rules ds s ys last) h k
  struck_append sets (s ∷ xs) ys mid last h k = (h.0, (h.1.0, struck_append (without sets s.field s.option) xs ys mid last h.1.1 k))

-- strikes whose causes hold under some decisions hold under all that keep these in force
module _ (rules : List Rule) (ds es : List Decision) (more : (d : Decision) → InForce ds d → InForce es d) where
  holds_more : (sets : List ℕ) (x a : ℕ) (why : Cause) → Holds rules ds sets x a why → Holds rules es sets x a why
  holds_more sets x a (Decided d) h = (more d h.0, h.1)
  holds_more sets x a (Unsupported r side) h = h

  pub struck_more : (sets : List ℕ) (xs : List Strike) (last : List ℕ) → Struck rules ds sets xs last → Struck rules es sets xs last
  struck_more sets [] last h = h
  struck_more sets (s ∷ xs) last h =
      (h.0, (holds_more sets s.field s.option s.cause h.1.0, struck_more (without sets s.field s.option) xs last h.1.1))

-- a decision in force stays in force when another is taken
pub in_force_more : (ds more : List Decision) (d : Decision) → InForce ds d → InForce (ds ++ more) d
in_force_more ds more d h =
    (h.0, (let l = h.1.0 in omega (arith, length-append ds more), λ e. get_or_append_left ds more e h.0 h.1.0 ∙ h.1.1 e))
