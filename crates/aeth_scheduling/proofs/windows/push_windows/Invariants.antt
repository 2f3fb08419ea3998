use Rattle.std.proofs.Common.{◌≡◌, ◌<◌, ◌++◌, drop, length, map}
use Rattle.aeth_schedule.specs.{Switching.switches_from, Windows.window_by}
use Rattle.aeth_scheduling.proofs.windows.push_windows.Given as goal

-- The windows of the switches that are left are still to be appended.
abbrev pub invariant-loop-row : goal.invariant-loop-row
invariant-loop-row l = record {
  from : l.from.0 < length l.task.groups.now.uses;
  windows : l.windows.items ++ map (window_by l.task.spans.now)
      (switches_from l.from.0 (drop l.row-index l.rows))
      ≡ l.fn.windows.items ++ map (window_by l.task.spans.now) (switches_from l.fn.first.0 l.rows);
}
