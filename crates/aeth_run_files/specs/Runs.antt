-- Runs: a plan that is accepted for a chip and an application, and then the traces for it.
-- This project's own.
use Rattle.aeth_group.specs.Members.{groups_of}
use Rattle.aeth_plan.specs.{Plan.PlanData, declared.design.Design.Design}
use Rattle.aeth_machine.specs.declared.traces.Traces.{Traces}
use Rattle.aeth_tables.specs.Switching.{spans_of}
use Rattle.aeth_answers.specs.Task.{Judging}
use Rattle.aeth_run_files.specs.declared.runs.{Run.Run, RunFiles.RunFiles}
use Rattle.aeth_run_files.specs.TraceFiles.{traces_files}
use Rattle.aeth_files.specs.Plans.{accepted_file}

-- What a design is run with: a plan and traces.
pub record RunData : Type 0 where
  pub plan : PlanData
  pub traces : Traces

-- A run by its plan and its traces. The groups are those of the application.
abbrev pub data_of : Run → RunData
data_of run = record { plan = run.planned.plan; traces = run.traces }

-- The traces for an accepted plan are read, the switches with the plan's spans.
abbrev pub traced_files : Design → RunFiles → PlanData → Judging RunData
traced_files design files plan next =
    traces_files design.app (spans_of design.chip design.app (groups_of design.app) plan) files
    (λ traces. next (record { plan = plan; traces = traces }))

-- A plan text is read, its plan is accepted, and then the traces are read.
abbrev pub run_files : Design → RunFiles → Judging RunData
run_files design files next =
    accepted_file design.chip design.app files.plan
    (λ plan. traced_files design files plan next)
