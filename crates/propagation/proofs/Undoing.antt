-- Strikes that are undone.
use Rattle.std.proofs.Common.{◌≡◌, ℕ, ◌-◌, ◌^◌, T, List, [], ◌∷◌, get_or, set, sym, ap, ◌∙◌, inl, inr, arith}
use Rattle.std.proofs.lemmas.Bool.{cases_eq}
use Rattle.std.proofs.lemmas.List.{set-set, set-get_or}
use Rattle.network.specs.Network.{Rule, part}
use Rattle.network.specs.Sets.{set_with}
use Rattle.network.proofs.Masks.{without_is}
use Rattle.network.proofs.Masks as masks
use Rattle.propagation.specs.Strikes.{without, Struck}
use Rattle.propagation.specs.Undo.{Fit, put_one, put_all}
use Rattle.propagation.specs.declared.record.Decision.{Decision}
use Rattle.propagation.specs.declared.record.Strike.{Strike}
use Rattle.propagation.proofs.Strikes.{without_same, without_other}

-- one option less still fits
pub fit_without : (sets : List ℕ) (x a : ℕ) → T (part sets x a) → Fit sets → Fit (without sets x a)
fit_without sets x a stands fit y =
    elim (cases_eq y x) [
      | inl e ↦ omega (arith, fit x, ap (λ z. get_or (without sets x a) z 0) e ∙ without_same sets x a stands)
      | inr ne ↦ omega (arith, fit y, without_other sets x a stands y ne)
    ]

-- a struck option is put back
put_back_one : (sets : List ℕ) (s : Strike) → Fit sets → T (part sets s.field s.option) → put_one (without sets s.field s.option) s ≡ sets
put_back_one sets s fit stands =
    let x = s.field in
    let w = get_or sets x 0 in
    let again : set_with (get_or (without sets x s.option) x 0) s.option ≡ w =
    ap (λ v. set_with v s.option) (without_same sets x s.option stands ∙ sym (without_is w s.option stands)) ∙ masks.put_back w s.option (fit x) stands in
    set-set sets x (w - 2 ^ s.option) (set_with (get_or (without sets x s.option) x 0) s.option) ∙ ap (set sets x) again ∙ set-get_or sets x 0

-- strikes that led from the first sets to the last are undone
pub undone : (rules : List Rule) (decisions : List Decision) (found : List Strike) (first last : List ℕ) → Fit first → Struck rules decisions first found last → put_all last found ≡ first
undone rules decisions [] first last fit e = e
undone rules decisions (s ∷ rest) first last fit (stands, (h, more)) =
    ap (λ ws. put_one ws s) (undone rules decisions rest (without first s.field s.option) last (fit_without first s.field s.option stands fit) more)
    ∙ put_back_one first s fit stands
