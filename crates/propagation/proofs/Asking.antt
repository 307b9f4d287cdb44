-- What a book tells of a rule that it has.
use Rattle.std.proofs.Common.{◌≡◌, ℕ, ◌<◌, T, List, sym, ap, ◌∙◌, subst, lt→ltb}
use Rattle.network.specs.Network.{Rule, rule_at, rule_limit, option_limit, no_field, no_fields}
use Rattle.network.specs.declared.rules.Ends.{Ends}
use Rattle.network.specs.declared.rules.Side.{Side}
use Rattle.network.specs.declared.rules.Side.TheVariants.{Left, Right}
use Rattle.network.proofs.Truth.{and_T}
use Rattle.books.specs.Reads.{asked, allowed_on, permits_on}
use Rattle.books.proofs.Asked.{asked_is, allowed_on_by, permits_T, T_permits}
use Rattle.propagation.specs.Refusals.{unfit}
use Rattle.propagation.specs.Arcs.{pairs}

module _ (rules : List Rule) (r : ℕ) (small : r < rule_limit) where
  pub asked_left : (v : ℕ) → v ≡ (asked rules r).left → v ≡ (rule_at rules r).left
  asked_left v e = e ∙ ap (λ x. x.left) (asked_is rules r small)

  pub asked_right : (v : ℕ) → v ≡ (asked rules r).right → v ≡ (rule_at rules r).right
  asked_right v e = e ∙ ap (λ x. x.right) (asked_is rules r small)

  told : (side : Side) (a b : ℕ) → allowed_on rules side r a b ≡ permits_on (rule_at rules r) side a b
  told side a b = allowed_on_by rules r (rule_at rules r) (asked_is rules r small) side a b

  -- what is told to be allowed is allowed, and the other way where fields and options can be
  pub allowed_pairs : (side : Side) (a b : ℕ) → T (allowed_on rules side r a b) → T (pairs rules side r a b)
  allowed_pairs Left a b t = (T_permits (rule_at rules r) Left a b (subst T (told Left a b) t)).pair
  allowed_pairs Right a b t = (T_permits (rule_at rules r) Right a b (subst T (told Right a b) t)).pair

  pub pairs_allowed : (side : Side) (a b : ℕ) → (rule_at rules r).left < no_field → (rule_at rules r).right < no_field → a < option_limit → b < option_limit → T (pairs rules side r a b) → T (allowed_on rules side r a b)
  pairs_allowed Left a b l m h k t =
      subst T (sym (told Left a b)) (permits_T (rule_at rules r) Left a b (and_T _ _ (lt→ltb _ no_field l) (lt→ltb _ no_field m)) h k t)
  pairs_allowed Right a b l m h k t =
      subst T (sym (told Right a b)) (permits_T (rule_at rules r) Right a b (and_T _ _ (lt→ltb _ no_field l) (lt→ltb _ no_field m)) h k t)

-- whether it lies between two of n fields
pub unfit_asked : (rules : List Rule) (r n left right : ℕ) → r < rule_limit → left ≡ (asked rules r).left → right ≡ (asked rules r).right → unfit n (rule_at rules r) ≡ no_fields n left right
unfit_asked rules r n left right small l m =
    ap (λ x. no_fields n x (rule_at rules r).right) (sym (asked_left rules r small left l)) ∙ ap (no_fields n left) (sym (asked_right rules r small right m))

-- these are the ends of rule r
abbrev pub AreEnds : List Rule → ℕ → Ends → Type 0
AreEnds rules r ends = (ends.left ≡ (rule_at rules r).left) × (ends.right ≡ (rule_at rules r).right)
