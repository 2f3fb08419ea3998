use Rattle.std.proofs.Common.{◌≡◌}
use Rattle.aeth_alloc.specs.Allocation.{after_turns}
use Rattle.aeth_alloc.proofs.allocation.last_state.Given as goal

-- So many turns were taken.
abbrev pub invariant-loop-turn : goal.invariant-loop-turn
invariant-loop-turn g l = l.state ≡ after_turns l.design l.groups l.turn
