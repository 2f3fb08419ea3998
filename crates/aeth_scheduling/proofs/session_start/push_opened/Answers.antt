use Rattle.std.proofs.Common.{arith, refl, Some, append-nil}
use Rattle.aeth_report.specs.Sessions.{go_by}
use Rattle.aeth_schedule.specs.{ByLine.session_starts_at, SessionStarts.session_start_by}
use Rattle.aeth_schedule.specs.{Lines.changed_lines, Lines.lines_at}
use Rattle.aeth_scheduling.proofs.SessionStartLemmas.{session_start-early, session_start-late}
use Rattle.aeth_scheduling.proofs.session_start.push_opened.Goals as goal

-- They go past the end.
pub returns-then-go-from-clause-session_starts : goal.returns-then-go-from-clause-session_starts
returns-then-go-from-clause-session_starts c =
    let task = c.args.task.now in
    let row = c.args.entering.now.row.now in
    let later = c.args.entering.now.later.now in
    let go = go_by task.spans.now (record { leaves = c.args.from.0; row = row }) in
    let is = c.go_by-go.ensures in
    rw (
      session_start-late (session_start_by task.groups.now task.spans.now task.all.now
          task.words.now task.cycles (Some (record { leaves = c.args.from.0; row = row })) row.to.0
          later) task.cycles go
          (changed_lines task.groups.now c.args.from.0 row.to.0 (lines_at task.all.now row.to.0))
          (λ line. refl) (omega arith),
      append-nil (session_starts_at task.all.now c.args.list.now.items),
    ) refl

-- All go within the run, of a change that was found before.
pub returns-in-Some-clause-session_starts : goal.returns-in-Some-clause-session_starts
returns-in-Some-clause-session_starts c =
    let task = c.args.task.now in
    let row = c.args.entering.now.row.now in
    let later = c.args.entering.now.later.now in
    let go = go_by task.spans.now (record { leaves = c.args.from.0; row = row }) in
    let is = c.go_by-go.ensures in
    rw (session_start-early (session_start_by task.groups.now task.spans.now task.all.now
    task.words.now task.cycles (Some (record { leaves = c.args.from.0; row = row })) row.to.0
    later) task.cycles go
    (changed_lines task.groups.now c.args.from.0 row.to.0 (lines_at task.all.now row.to.0))
    (λ line. refl) (omega arith)) (rw (is, c.deref-in-Some.ensures.value, c.in-Some.ensures.opening) at c.push_changed.ensures)

-- So do they of one that is found now.
pub returns-clause-session_starts : goal.returns-clause-session_starts
returns-clause-session_starts c =
    let task = c.args.task.now in
    let row = c.args.entering.now.row.now in
    let later = c.args.entering.now.later.now in
    let go = go_by task.spans.now (record { leaves = c.args.from.0; row = row }) in
    let is = c.go_by-go.ensures in
    rw (session_start-early (session_start_by task.groups.now task.spans.now task.all.now
    task.words.now task.cycles (Some (record { leaves = c.args.from.0; row = row })) row.to.0
    later) task.cycles go
    (changed_lines task.groups.now c.args.from.0 row.to.0 (lines_at task.all.now row.to.0))
    (λ line. refl) (omega arith)) (rw (is, c.deref-2.ensures.value, c.in_ok-change.ensures.change.opening) at c.in_ok-push_changed.ensures)
