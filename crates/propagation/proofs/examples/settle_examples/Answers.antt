use Rattle.std.proofs.Common.{ℕ, zero, suc, List, [], ◌∷◌, ◌++◌, pos, negsuc, refl, arith, lit<}
use Rattle.network.specs.declared.rules.Side.{Side}
use Rattle.network.specs.declared.rules.Side.TheVariants.{Left, Right}
use Rattle.network.specs.declared.rules.Kind.TheVariants.{Equal, Different, AtMost, Apart}
use Rattle.network.proofs.Masks.{ones_alone}
use Rattle.books.specs.Formula.{formula_rules}
use Rattle.propagation.specs.Examples.{set_of, all_options, between, zero_one, zero_to_two}
use Rattle.propagation.specs.declared.record.Cause.TheVariants.{Unsupported}
use Rattle.propagation.specs.declared.record.Strike.{Strike}
use Rattle.propagation.proofs.Deciding.{some_below, each_below, supported, arc_passes, all_pass, cause_passes, strikes_pass, all_fit, decided, decided_empty}
use Rattle.propagation.proofs.examples.settle_examples.Goals as goal

-- option a of field x is struck, having no partner under rule r, of which the field is that side
abbrev out : ℕ → ℕ → ℕ → Side → Strike
out x a r side = record { field = x; option = a; cause = Unsupported r side }

-- the options n down to 1 of field x are
abbrev down_from : ℕ → ℕ → Side → List Strike
down_from x zero side = []
down_from x (suc n) side = out x (suc n) 0 side ∷ down_from x n side

pub returns : goal.returns
unfolding some_below each_below supported arc_passes all_pass cause_passes strikes_pass all_fit
returns c = record {
  alone = decided [] (set_of (5 ∷ []) ∷ []) [] tt tt tt tt;
  alone_stands = omega (arith, ones_alone 5 (lit< tt));
  ordered = decided (formula_rules (between 0 1 AtMost (negsuc 0) ∷ [])) (zero_to_two ∷ zero_to_two ∷ []) (out 0 2 0 Left ∷ out 1 0 0 Right ∷ []) tt tt tt tt;
  unequal = (0, (lit< tt, decided_empty (formula_rules (between 0 1 Equal (pos 0) ∷ [])) (set_of (0 ∷ []) ∷ set_of (1 ∷ []) ∷ []) (out 0 0 0 Left ∷ []) 0 tt tt refl));
  stairs = decided (formula_rules (between 0 1 Equal (pos 1) ∷ between 1 2 Equal (pos 1) ∷ [])) (zero_to_two ∷ zero_to_two ∷ zero_to_two ∷ [])
      (out 0 0 0 Left ∷ out 1 2 0 Right ∷ out 1 0 1 Left ∷ out 0 1 0 Left ∷ out 2 2 1 Right ∷ out 2 1 1 Right ∷ []) tt tt tt tt;
  triangle = decided (formula_rules (between 0 1 Different (pos 0) ∷ between 0 2 Different (pos 0) ∷ between 1 2 Different (pos 0) ∷ [])) (zero_one ∷ zero_one ∷ zero_one ∷ []) [] tt tt tt tt;
  contrary = decided (formula_rules (between 0 1 Equal (pos 0) ∷ between 0 1 Different (pos 0) ∷ [])) (zero_one ∷ zero_one ∷ []) [] tt tt tt tt;
  apart = decided (formula_rules (between 0 1 Apart (pos 31) ∷ [])) (all_options ∷ all_options ∷ []) (down_from 0 30 Left ++ down_from 1 30 Right) tt tt tt tt;
}
