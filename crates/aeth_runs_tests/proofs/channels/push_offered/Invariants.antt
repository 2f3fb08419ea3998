use Rattle.std.proofs.Common.{◌≤◌, length}
use Rattle.aeth_trace.specs.Words.{words_until}
use Rattle.aeth_runs_tests.proofs.channels.push_offered.Given as goal

-- So many words are offered up to the cycle.
abbrev pub invariant-loop-cycle : goal.invariant-loop-cycle
invariant-loop-cycle l = l.known ≤ length (words_until l.words l.channel l.cycle)
