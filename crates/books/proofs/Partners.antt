-- Partners under the rule that a number asks for.
use Rattle.std.proofs.Common.{◌≡◌, ℕ, false, ◌&&◌, ltb, List, None, Option, sym, subst}
use Rattle.network.specs.Network.{option_limit, Rule, no_rule}
use Rattle.network.specs.declared.rules.Side.{Side}
use Rattle.books.specs.Reads.{asked, between_fields, permits_on, allowed_on, Found, Partner}
use Rattle.books.proofs.Asked.{allowed_on_by, allowed_on_like, none_allowed, permits_out}
use Rattle.books.proofs.Found.{found_like, found_none}

-- none where there is no rule
pub no_partner : (rules : List Rule) (side : Side) (r a w : ℕ) → asked rules r ≡ no_rule → (answer : Option ℕ) → answer ≡ None → Partner rules side r a w answer
no_partner rules side r a w none answer e =
    subst (Partner rules side r a w) (sym e) (found_none (allowed_on rules side r a) w (none_allowed rules r none side a))

-- an option that the rule permits
pub partner_by : (rules : List Rule) (r : ℕ) (rule : Rule) → asked rules r ≡ rule → (side : Side) (a w : ℕ) (answer : Option ℕ) → Found (permits_on rule side a) w answer → Partner rules side r a w answer
partner_by rules r rule is side a w =
    found_like (permits_on rule side a) (allowed_on rules side r a) w (λ b t. sym (allowed_on_by rules r rule is side a b))

-- the same as under the same rule of another list
pub partner_like : (rules like : List Rule) (r q : ℕ) → asked rules r ≡ asked like q → (side : Side) (a w : ℕ) (answer : Option ℕ) → Partner like side q a w answer → Partner rules side r a w answer
partner_like rules like r q e side a w =
    found_like (allowed_on like side q a) (allowed_on rules side r a) w (λ b t. sym (allowed_on_like rules like r q e side a b))

-- none where the rule is not between fields, or no field has such an option
pub none_permitted : (rules : List Rule) (r : ℕ) (rule : Rule) → asked rules r ≡ rule → (side : Side) (a w : ℕ) → (between_fields rule && ltb a option_limit) ≡ false → Partner rules side r a w None
none_permitted rules r rule is side a w out =
    partner_by rules r rule is side a w None (found_none (permits_on rule side a) w (λ b. permits_out rule side a b out))
