use Rattle.std.{proofs.Common.◌≡◌, proofs.Common.flat_map, specs.List.range_with_len}
use Rattle.aeth_schedule.specs.Values.{values_with}
use Rattle.aeth_schedule.proofs.placing.values.Given as goal

-- The values of the connections so far.
abbrev pub invariant-loop-c : goal.invariant-loop-c
invariant-loop-c l = l.values.items ≡ flat_map (values_with l.words) (range_with_len 0 l.c)
