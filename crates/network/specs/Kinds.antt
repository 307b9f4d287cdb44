-- The numbers of the kinds of formula rules.
use Rattle.std.specs.Prelude.{ℕ, zero, suc}
use Rattle.network.specs.declared.rules.Kind.{Kind}
use Rattle.network.specs.declared.rules.Kind.TheVariants.{Equal, Different, AtMost, Apart, Unknown}

-- the kind that a number stands for
abbrev pub kind_of : ℕ → Kind
kind_of zero = Equal
kind_of (suc zero) = Different
kind_of (suc (suc zero)) = AtMost
kind_of (suc (suc (suc zero))) = Apart
kind_of (suc (suc (suc (suc n)))) = Unknown
