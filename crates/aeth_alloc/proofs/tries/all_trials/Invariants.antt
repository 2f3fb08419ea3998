use Rattle.std.proofs.Common.{◌≡◌, take}
use Rattle.aeth_alloc.proofs.tries.all_trials.Given as goal

-- The trials so far.
abbrev pub invariant-loop-i : goal.invariant-loop-i
invariant-loop-i l = l.trials.items ≡ take l.i l.tries
