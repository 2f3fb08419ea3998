-- Logs of links that `audit` judges and `links` prints.
--
--   IsCleanLog      no row of a log breaks a rule
--   LogFor, IsLogTold      a log with what it is judged by, which their files told
--   IsAudited      a job says that a log is clean, exactly where it is
-- This project's own.
use Rattle.std.proofs.Common.{ℕ, ◌≡◌, ◌↔◌, List, Contains, Option, codes, filter, length, nat_lt}
use Rattle.aeth_accepted.specs.Inputs.{design_on}
use Rattle.aeth_answers.specs.Job.{Job, done}
use Rattle.aeth_audit.specs.{Breaks.IsClean, LinkLog.link_log_of, declared.row.LinkRow.LinkRow}
use Rattle.aeth_files.specs.Told.{IsTold}
use Rattle.aeth_group.specs.Members.{groups_of}
use Rattle.aeth_plan.specs.{Plan.PlanData, declared.design.Design.Design as Given}
use Rattle.aeth_plan_commands.specs.declared.audit.AuditFiles.{AuditFiles}
use Rattle.aeth_reconf.specs.Timeline.{timeline_of}
use Rattle.aeth_report.specs.Design.{Design}
use Rattle.aeth_tables.specs.Switching.{spans_of}
use Rattle.aeth_trace.specs.{Spans.SpanData, Switches.switches_of}
use Rattle.aeth_trace.specs.{declared.switches.SwitchRow.SwitchRow}
use Rattle.aeth_command_laws.specs.Told.{IsPlanTold}

-- No row of a log, of those before a number of cycles, breaks a rule: its link is reserved in its cycle,
-- for the channel of its flit, which was on the link before and is on the one after.
abbrev pub IsCleanLog : Design → SpanData → List SwitchRow → ℕ → List LinkRow → Type 0
IsCleanLog design spans switches cycles log =
    let rows = filter (λ row. nat_lt row.cycle cycles) log in
    (row : LinkRow) → Contains rows row
    → IsClean design (timeline_of design.groups spans switches) cycles rows row

-- A log of links, and what it is judged by: a chip and an application, a plan, and switches.
pub record LogFor : Type 0 where
  pub design : Given
  pub plan : PlanData
  pub switches : List SwitchRow
  pub rows : List LinkRow

-- The spans of the switches by the plan.
abbrev pub spans_for : LogFor → SpanData
spans_for log =
    spans_of log.design.chip log.design.app (groups_of log.design.app) log.plan

module _ (content : List ℕ → Option (List ℕ)) (files : AuditFiles) (cycles : ℕ) where
  -- Each of them was told by its file, and the plan is accepted.
  pub record IsLogTold (log : LogFor) : Type 0 where
    pub plan : IsPlanTold content files.chip files.app files.plan log.design log.plan
    pub switches : IsTold content files.switches (switches_of log.design.app (spans_for log))
        log.switches
    pub rows : IsTold content files.log (link_log_of (length log.design.chip.links)) log.rows

  -- The files told a log that is clean.
  pub record IsCleanTold : Type 0 where
    pub log : LogFor
    pub told : IsLogTold log
    pub clean : IsCleanLog (design_on log.design.chip log.design.app log.plan) (spans_for log)
        log.switches cycles log.rows

-- The job says that the log is clean, exactly where the files told one that is.
abbrev pub IsAudited : (List ℕ → Option (List ℕ)) → AuditFiles → ℕ → Job → Type 0
IsAudited content files cycles asked =
    (asked ≡ done (codes "clean\n")) ↔ IsCleanTold content files cycles
