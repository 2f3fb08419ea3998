use Rattle.std.proofs.Common.{◌≡◌, length, map}
use Rattle.std.specs.List.{filter_map, range_with_len}
use Rattle.aeth_alloc.specs.{Allocation.after_turns, Trials.trial_after, Tries.AreWithin}
use Rattle.aeth_alloc.specs.{Tries.trial_over}
use Rattle.aeth_alloc.proofs.tries.tries_of.Given as goal

-- So many turns were taken, and their tries are kept.
abbrev pub invariant-loop-turn : goal.invariant-loop-turn
invariant-loop-turn g l = record {
  state : l.state ≡ after_turns l.design l.groups l.turn;
  trials : map (trial_over l.state.reserved.book.grants) l.tries.items
      ≡ filter_map (trial_after l.design l.groups) (range_with_len 0 l.turn);
  within : AreWithin (length l.state.reserved.book.grants) l.tries.items;
}
