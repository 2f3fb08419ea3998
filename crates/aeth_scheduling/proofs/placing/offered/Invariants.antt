use Rattle.std.proofs.Common.{◌≤◌, ◌-◌, length}
use Rattle.aeth_trace.specs.Words.{words_on, words_until}
use Rattle.aeth_scheduling.proofs.placing.offered.Given as goal

-- The number lies between the bounds.
abbrev pub invariant-halve : goal.invariant-halve
invariant-halve l = record {
  low : l.low ≤ length (words_until l.words l.channel l.cycle);
  high : length (words_until l.words l.channel l.cycle) ≤ l.high;
  all : l.high ≤ length (words_on l.words l.channel);
}

-- What is left to halve.
abbrev pub decreases-halve : goal.decreases-halve
decreases-halve l = l.high - l.low
