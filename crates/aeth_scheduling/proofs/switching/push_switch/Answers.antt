use Rattle.std.proofs.Common.{ap, arith, refl, append-nil}
use Rattle.aeth_report.specs.{Sessions.close_by, declared.session.Close.Close}
use Rattle.aeth_schedule.specs.Lines.{lines_at}
use Rattle.aeth_scheduling.{specs.Made.changed_rows, proofs.Within.switch-late}
use Rattle.aeth_scheduling.proofs.switching.push_switch.Goals as goal

-- The switch lies past the end.
pub returns-then-close-from-clause-events : goal.returns-then-close-from-clause-events
returns-then-close-from-clause-events c =
    let groups = c.args.task.now.groups.now in
    let all = c.args.task.now.all.now in
    let close = close_by c.args.task.now.spans.now
    (record { leaves = c.args.from.0; row = c.args.row.now }) in
    let stop = ap (λ (one : Close). one.stop) c.close_by-close.ensures in
    let end = c.from.ensures in
    let late = c.if-close-from.true in
    rw (
      switch-late c.args.task.now.cycles close
          (changed_rows groups c.args.from.0 c.args.row.now.to.0 (lines_at all c.args.from.0))
          (changed_rows groups c.args.from.0 c.args.row.now.to.0 (lines_at all c.args.row.now.to.0))
          (omega (arith, stop, end, late)) (omega arith),
      append-nil c.args.list.now,
    ) refl
