use Rattle.std.proofs.Common.{◌≡◌, ◌+◌, List, drop}
use Rattle.aeth_app.specs.App.{AppData}
use Rattle.aeth_trace.specs.declared.switches.SwitchRow.{SwitchRow}
use Rattle.aeth_audit.specs.{Audit.first_fault, Judged.IsJudgeOf, Judged.design_for}
use Rattle.aeth_audit.proofs.judge.Judge.first_fault.Given as goal

-- The rows that are left have the same first fault as all rows.
abbrev pub invariant-loop-row : goal.invariant-loop-row
invariant-loop-row l = record {
  number : l.number ≡ l.row-index + 1;
  fault : (app : AppData) (switches : List SwitchRow) → IsJudgeOf app switches l.self
      → first_fault (design_for app l.self) l.self.timeline.now l.self.cycles l.self.rows.now
      l.number (drop l.row-index l.self.rows.now)
      ≡ first_fault (design_for app l.self) l.self.timeline.now l.self.cycles l.self.rows.now 1
      l.self.rows.now;
}
