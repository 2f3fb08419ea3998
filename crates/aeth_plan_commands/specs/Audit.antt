-- `audit CHIP APP PLAN SWITCHES LOG CYCLES`: whether each flit of a log of links is one that the
-- network of an accepted plan may carry there, or the first row that breaks a rule.
-- This project's own.
use Rattle.std.proofs.Common.{ℕ, ◌++◌, List, [], ◌∷◌, Option, Some, None, codes, decimal, length}
use Rattle.aeth_accepted.specs.Inputs.{design_on}
use Rattle.aeth_audit.specs.{Audit.audit_of, LinkLog.link_log_of, declared.verdict.Audit.Audit}
use Rattle.aeth_audit.specs.{declared.verdict.Audit.TheVariants.Clean}
use Rattle.aeth_audit.specs.{declared.verdict.Audit.TheVariants.Fault, declared.row.LinkRow.LinkRow}
use Rattle.aeth_base.specs.Limits.{max_cycles}
use Rattle.aeth_files.specs.{Files.design_file, Plans.accepted_file}
use Rattle.aeth_run_files.specs.TraceFiles.{switches_file}
use Rattle.aeth_group.specs.Members.{groups_of}
use Rattle.aeth_plan.specs.{Plan.PlanData, declared.design.Design.Design}
use Rattle.aeth_reconf.specs.Timeline.{timeline_of}
use Rattle.aeth_tables.specs.Switching.{spans_of}
use Rattle.aeth_trace.specs.declared.switches.SwitchRow.{SwitchRow}
use Rattle.aeth_plan_commands.specs.declared.command.PlanCommand.{PlanCommand}
use Rattle.aeth_plan_commands.specs.declared.audit.AuditFiles.{AuditFiles}
use Rattle.aeth_answers.specs.{Files.judged_file, Job.Job, Job.done, Job.not_granted, Task.Judging}
use Rattle.aeth_answers.specs.{Task.Task, Task.ends, Words.◌>>=◌, Words.file_name_of}
use Rattle.aeth_answers.specs.{Words.number_within}
use Rattle.aeth_plan_commands.specs.declared.command.PlanCommand.TheVariants as command

-- CHIP a chip file, APP an application file, PLAN a plan text, SWITCHES a file of switches, LOG a
-- log of links; CYCLES the number of cycles that are judged.
abbrev pub audit_command : List (List ℕ) → Option PlanCommand
audit_command (chip_word ∷ app_word ∷ plan_word ∷ switches_word ∷ log_word ∷ cycles_word ∷ []) = do
  chip ← file_name_of chip_word
  app ← file_name_of app_word
  plan ← file_name_of plan_word
  switches ← file_name_of switches_word
  log ← file_name_of log_word
  cycles ← number_within 1 max_cycles cycles_word
  Some (command.Audit (record {
    chip = chip;
    app = app;
    plan = plan;
    switches = switches;
    log = log;
  }) cycles)
audit_command words = None

-- `fault RULE ROW`.
abbrev pub fault_text : ℕ → ℕ → List ℕ
fault_text rule row =
    codes "fault " ++ decimal rule ++ codes " " ++ decimal row ++ codes "\n"

-- `clean`, or the fault.
abbrev pub audit_job : Audit → Job
audit_job Clean = done (codes "clean\n")
audit_job (Fault rule row) = not_granted (fault_text rule row)

-- The audit of a log, by a plan through switches.
abbrev pub audited : Design → PlanData → List SwitchRow → List LinkRow → ℕ → Audit
audited design plan switches log cycles =
    let groups = groups_of design.app in
    let spans = spans_of design.chip design.app groups plan in
    audit_of (design_on design.chip design.app plan) (timeline_of groups spans switches) log cycles

-- A log of links for a chip of so many.
abbrev pub log_file : ℕ → List ℕ → Judging (List LinkRow)
log_file links name next = judged_file (codes "log") (link_log_of links) name next

-- For switches a log is read, and judged.
abbrev pub log_task : Design → PlanData → List SwitchRow → AuditFiles → ℕ → Task
log_task design plan switches files cycles = log_file (length design.chip.links) files.log
    (λ log. ends (audit_job (audited design plan switches log cycles)))

-- For an accepted plan the switches are read with the plan's spans, and then a log.
abbrev pub switched_task : Design → PlanData → AuditFiles → ℕ → Task
switched_task design plan files cycles = switches_file design.app
    (spans_of design.chip design.app (groups_of design.app) plan) files.switches
    (λ switches. log_task design plan switches files cycles)

-- For a chip and an application a plan text is read, and the plan is accepted.
abbrev pub planned_task : Design → AuditFiles → ℕ → Task
planned_task design files cycles = accepted_file design.chip design.app files.plan
    (λ plan. switched_task design plan files cycles)

-- A chip file and an application file are read, then a plan for these, then switches, and then a
-- log.
abbrev pub audit_task : AuditFiles → ℕ → Task
audit_task files cycles =
    design_file files.chip files.app (λ design. planned_task design files cycles)
