use Rattle.std.proofs.Common.{◌≡◌, length, map}
use Rattle.std.specs.List.{range_with_len}
use Rattle.aeth_schedule.specs.Values.{values_of}
use Rattle.aeth_scheduling.proofs.placing.starts.Given as goal

-- The places so far, and the next.
abbrev pub invariant-loop-c : goal.invariant-loop-c
invariant-loop-c l = record {
  starts : l.starts.items ≡ map (λ c. length (values_of l.words c)) (range_with_len 0 l.c);
  start : l.start ≡ length (values_of l.words l.c);
}
