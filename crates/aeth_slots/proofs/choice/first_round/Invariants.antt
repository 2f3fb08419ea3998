use Rattle.std.proofs.Common.{◌≡◌, ◌≤◌}
use Rattle.aeth_slots.proofs.FirstRound.{IsBegun}
use Rattle.aeth_slots.proofs.choice.first_round.Given as goal

-- The slots so far begin the round.
abbrev pub invariant-loop-left : goal.invariant-loop-left
invariant-loop-left l = record {
  size : l.set.size ≡ l.free.size;
  few : l.left ≤ l.more;
  begun : IsBegun l.free l.gap l.more l.first l.from l.left l.set.slots;
}

-- The slots that are left.
abbrev pub decreases-loop-left : goal.decreases-loop-left
decreases-loop-left l = l.left
