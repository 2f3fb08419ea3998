use Rattle.std.proofs.Common.{◌≡◌, ◌<◌, ◌++◌, drop, length}
use Rattle.aeth_schedule.specs.ByLine.{session_starts_at}
use Rattle.aeth_schedule.specs.SessionStarts.{session_start_within, session_starts_behind}
use Rattle.aeth_scheduling.specs.Changes.{AreChanges}
use Rattle.aeth_scheduling.proofs.session_start.push_later.Given as goal

-- The sessions of the switches that are left are still to be appended.
abbrev pub invariant-loop-place : goal.invariant-loop-place
invariant-loop-place l = record {
  from : l.from.0 < length l.task.groups.now.uses;
  found : AreChanges l.task.groups.now l.task.all.now l.found.items;
  session_starts : session_starts_at l.task.all.now l.list.items
      ++ session_start_within l.task.cycles (session_starts_behind l.task.groups.now
      l.task.spans.now l.task.all.now l.task.words.now l.task.cycles l.from.0
      (drop l.place l.first.later.now))
      ≡ session_starts_at l.task.all.now l.fn.list.items
      ++ session_start_within l.task.cycles (session_starts_behind l.task.groups.now
      l.task.spans.now l.task.all.now l.task.words.now l.task.cycles l.first.row.now.to.0
      l.first.later.now);
}
