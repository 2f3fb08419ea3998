use Rattle.std.proofs.Common.{◌≤◌, length}
use Rattle.aeth_trace.specs.Receivers.{pulls_until}
use Rattle.aeth_runs_tests.proofs.channels.push_next_pulls.Given as goal

-- So many rows of the channel aren't later.
abbrev pub invariant-loop-cycle : goal.invariant-loop-cycle
invariant-loop-cycle l = l.known ≤ length (pulls_until l.receivers l.channel l.cycle)
