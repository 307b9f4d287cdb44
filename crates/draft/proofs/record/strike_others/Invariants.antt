use Rattle.std.proofs.Common.{◌≡◌, ◌^◌, ◌<◌, false, ◌++◌, vec_items, vec_capacity}
use Rattle.network.specs.Network.{option_limit, has}
use Rattle.draft.specs.Draft.{choose_strikes}
use Rattle.draft.proofs.record.strike_others.Given as goal

-- what is entered and what is still to be entered make up the strikes of the choose
abbrev pub invariant-loop-other : goal.invariant-loop-other
invariant-loop-other l = record {
  items : vec_items l.strikes ++ choose_strikes l.others.word l.field l.option ≡ vec_items l.initial.strikes ++ choose_strikes l.fn.set.word l.field l.option;
  capacity : vec_capacity l.strikes ≡ vec_capacity l.initial.strikes;
  fits : l.others.word < 2 ^ option_limit;
  others : has l.others.word l.option ≡ false;
}

abbrev pub decreases-loop-other : goal.decreases-loop-other
decreases-loop-other l = l.others.word
