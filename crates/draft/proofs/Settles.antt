-- A settle of an open draft.
use Rattle.std.proofs.Common.{◌≡◌, ℕ, ◌+◌, ◌<◌, ◌≤◌, true, false, List, [], length, get_or, is_err, Ok, Err, Result, ap, ◌∙◌, arith, MatchResult}
use Rattle.faults.specs.declared.EngineFault.{EngineFault}
use Rattle.network.specs.Network.{Rule}
use Rattle.propagation.specs.Opening.{Accepted}
use Rattle.propagation.specs.Progress.{Filled}
use Rattle.propagation.specs.Strikes.{options, Struck}
use Rattle.propagation.specs.declared.record.Strike.{Strike}
use Rattle.draft.specs.Draft.{State, settled}
use Rattle.draft.specs.Sound.{Sound, record_limit}
use Rattle.draft.proofs.Drafts.{standing_length, standing_fit, sound_settled}
use Rattle.draft.proofs.Strikes.{struck_left}
use Rattle.draft.proofs.Records.{left_by_le, struck_all_stood, options_left, options_bound}

-- a check that came out well, and one that did not
pub well : (P : Type 0) (Q : EngineFault → Type 0) (r : Result (Unit {0}) EngineFault) → is_err r ≡ false → MatchResult r (λ _. P) Q → P
well P Q (Ok x) e h = h
well P Q (Err why) e h = let z : ◌≡◌ {A = ℕ} 0 1 = cc in absurd (omega arith)

pub badly : (P Q : Type 0) (r : Result (Unit {0}) EngineFault) → is_err r ≡ true → MatchResult r (λ _. P) (λ _. Q) → Q
badly P Q (Ok x) e h = let z : ◌≡◌ {A = ℕ} 0 1 = cc in absurd (omega arith)
badly P Q (Err why) e h = h

module _ (s : State) (k : Sound s) where
  -- the record has room for every option that stands
  pub room_for_all : length s.strikes + options s.standing ≤ record_limit
  room_for_all =
      let left : options s.standing + length s.strikes ≡ options s.opening = ap (λ sets. options sets + length s.strikes) k.stands ∙ options_left s.opening s.strikes k.struck in
      omega (arith, left, options_bound s.opening k.fit, k.few)

  -- rules that fit what stands fit the opening, and the other way round
  module _ (rules : List Rule) where
    pub fits_opening : Accepted rules s.standing → Accepted rules s.opening
    fits_opening a =
        let size = standing_length s k in
        record {
          some = k.some;
          few = k.few;
          fit = k.fit;
          filled = λ x l.
              let there : 0 < get_or s.standing x 0 = a.filled x (omega arith) in
              omega (arith, left_by_le s.opening s.strikes x, ap (λ sets. get_or sets x 0) k.stands);
          rules_few = a.rules_few;
          left_is_field = λ r l. omega (arith, a.left_is_field r l);
          right_is_field = λ r l. omega (arith, a.right_is_field r l);
          ends_differ = a.ends_differ;
        }

    pub fits_standing : Accepted rules s.opening → Accepted rules s.standing
    fits_standing a =
        let size = standing_length s k in
        record {
          some = omega (arith, a.some);
          few = omega (arith, a.few);
          fit = standing_fit s k;
          filled = k.filled;
          rules_few = a.rules_few;
          left_is_field = λ r l. omega (arith, a.left_is_field r l);
          right_is_field = λ r l. omega (arith, a.right_is_field r l);
          ends_differ = a.ends_differ;
        }

    -- what a settle leaves is still sound
    pub sound_after : (found : List Strike) (after : List ℕ) → Struck rules [] s.standing found after → Filled after → Sound (settled s found after)
    sound_after found after struck full =
        sound_settled s k found (struck_all_stood rules [] s.standing found after struck) after (struck_left rules [] s.standing found after struck) full
