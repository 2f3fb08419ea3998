use Rattle.std.proofs.Common.{◌≡◌, ◌<◌, ◌++◌, drop, length, flat_map}
use Rattle.aeth_scheduling.specs.{Changes.AreChanges, Made.events_over}
use Rattle.aeth_schedule.specs.{Switching.switches_from, Timed.within}
use Rattle.aeth_scheduling.proofs.switching.push_events.Given as goal

-- The events of the switches that are left are still to be appended.
abbrev pub invariant-loop-row : goal.invariant-loop-row
invariant-loop-row l = record {
  from : l.from.0 < length l.task.groups.now.uses;
  found : AreChanges l.task.groups.now l.task.all.now l.found.items;
  events : l.list ++ within l.task.cycles (flat_map
      (events_over l.task.groups.now l.task.spans.now l.task.all.now)
      (switches_from l.from.0 (drop l.row-index l.rows)))
      ≡ l.fn.list ++ within l.task.cycles (flat_map
      (events_over l.task.groups.now l.task.spans.now l.task.all.now)
      (switches_from l.fn.first.0 l.rows));
}
