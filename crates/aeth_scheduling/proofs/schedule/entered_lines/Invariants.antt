use Rattle.std.{proofs.Common.◌≡◌, proofs.Common.map, specs.List.range_with_len}
use Rattle.aeth_scheduling.specs.Entered.{lines_if_entered}
use Rattle.aeth_scheduling.proofs.schedule.entered_lines.Given as goal

-- Those of the use cases so far.
abbrev pub invariant-loop-u : goal.invariant-loop-u
invariant-loop-u l = l.all.items ≡ map (lines_if_entered l.inputs) (range_with_len 0 l.u)
