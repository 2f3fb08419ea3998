use Rattle.std.proofs.Common.{◌≡◌, ◌++◌, map, take}
use Rattle.aeth_schedule.specs.ByLine.{line_at, session_starts_at}
use Rattle.aeth_schedule.specs.SessionStarts.{session_start_in}
use Rattle.aeth_scheduling.proofs.session_start.push_changed.Given as goal

-- The sessions so far.
abbrev pub invariant-loop-place : goal.invariant-loop-place
invariant-loop-place l = session_starts_at l.task.all.now l.list.items
    ≡ session_starts_at l.task.all.now l.fn.list.items ++ map
    (session_start_in l.task.groups.now l.task.spans.now l.task.words.now l.task.cycles l.go
    l.entering.row.now.to.0 l.entering.later.now)
    (map (line_at l.task.all.now l.entering.row.now.to.0) (take l.place-index l.places))
