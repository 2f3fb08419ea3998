use Rattle.std.proofs.Common.{arith, refl, None, append-nil}
use Rattle.aeth_schedule.specs.{ByLine.session_starts_at, SessionStarts.session_start_by}
use Rattle.aeth_schedule.specs.{Lines.lines_at}
use Rattle.aeth_scheduling.proofs.SessionStartLemmas.{session_start-early, session_start-late}
use Rattle.aeth_scheduling.proofs.session_start.push_first.Goals as goal

-- There is no cycle.
pub returns-then-task-eq0 : goal.returns-then-task-eq0
returns-then-task-eq0 c =
    let task = c.args.task.now in
    let to = c.args.first.now.row.now.to.0 in
    let later = c.args.first.now.later.now in
    rw (
      session_start-late (session_start_by task.groups.now task.spans.now task.all.now
          task.words.now task.cycles None to later) task.cycles 0
          (lines_at task.all.now to) (λ line. refl) (omega arith),
      append-nil (session_starts_at task.all.now c.args.list.now.items),
    ) refl

-- All go in the first.
pub returns : goal.returns
returns c =
    let task = c.args.task.now in
    let to = c.args.first.now.row.now.to.0 in
    let later = c.args.first.now.later.now in
    rw (session_start-early (session_start_by task.groups.now task.spans.now task.all.now
    task.words.now task.cycles None to later) task.cycles 0
    (lines_at task.all.now to) (λ line. refl) (omega arith))
    (rw c.lines_in.ensures at c.push_each.ensures)
