-- `demo N`: a large run that is made from a number, summed up. Its texts are judged as if they were
-- files.
-- This project's own.
use Rattle.std.proofs.Common.{ℕ, ◌++◌, List, [], ◌∷◌, length, sum, sum_by, Option, Some, None}
use Rattle.std.proofs.Common.{codes, decimal}
use Rattle.aeth_accepted.specs.Inputs.{Inputs}
use Rattle.aeth_alloc.specs.{Allocation.allocation, Prices.prices_of}
use Rattle.aeth_alloc.specs.{declared.outcome.Refused.Refused}
use Rattle.aeth_app.specs.{App.AppData, AppFile.app_of}
use Rattle.aeth_chip.specs.{Chip.ChipData, ChipFile.chip_of}
use Rattle.aeth_demo.specs.Limits.{demo_cycles, max_demo_number}
use Rattle.aeth_demo.specs.Texts.{TextsData, texts_of}
use Rattle.aeth_group.specs.Members.{groups_of}
use Rattle.aeth_plan.specs.{Plan.PlanData, declared.design.Design.Design}
use Rattle.aeth_machine.specs.{RunInputs.inputs_of, declared.traces.Traces.Traces, Totals.late_in}
use Rattle.aeth_report.specs.{Log.LogData, Regular.landings_in, Regular.offered_in}
use Rattle.aeth_tables.specs.Switching.{spans_of}
use Rattle.aeth_trace.specs.{Receivers.receivers_of, Spans.SpanData, Switches.switches_of}
use Rattle.aeth_trace.specs.{Words.words_of}
use Rattle.aeth_run_commands.specs.declared.command.RunCommand.{RunCommand}
use Rattle.aeth_design_commands.specs.Allocate.{refusals_text}
use Rattle.aeth_answers.specs.{Files.judgement, Job.Job, Job.done, Job.not_granted, Task.Judging}
use Rattle.aeth_answers.specs.{Task.Task, Task.ends, Words.◌>>=◌, Words.number_within}
use Rattle.aeth_run_commands.specs.declared.command.RunCommand.TheVariants as command

-- N a number.
abbrev pub demo_command : List (List ℕ) → Option RunCommand
demo_command (number_word ∷ []) = do
  n ← number_within 0 max_demo_number number_word
  Some (command.Demo n)
demo_command words = None

-- `demo N granted G offered A outside B landed C late E flits F`: the grants of the plan, the words
-- that were offered in sessions and outside of them, the landings, those that were late, and the flits
-- on all links.
abbrev pub summary_text : ℕ → PlanData → LogData → List ℕ
summary_text n plan log =
    codes "demo " ++ decimal n ++ codes " granted " ++ decimal (length plan.grants)
    ++ codes " offered " ++ decimal (sum_by offered_in log.channels)
    ++ codes " outside " ++ decimal (sum_by (λ one. one.outside) log.channels)
    ++ codes " landed " ++ decimal (sum_by landings_in log.channels)
    ++ codes " late " ++ decimal (sum_by late_in log.channels)
    ++ codes " flits " ++ decimal (sum log.flits) ++ codes "\n"

-- A task goes on with a plan where no unit is refused, and else ends by the refused units.
abbrev pub on_refusals : AppData → PlanData → List Refused → Judging PlanData
on_refusals app plan [] next = next plan
on_refusals app plan (refused ∷ others) next =
    ends (not_granted (refusals_text app (refused ∷ others)))

-- An application is allocated by its price.
abbrev pub granted_plan : ChipData → AppData → Judging PlanData
granted_plan chip app next =
    let outcome = allocation chip app (groups_of app) (prices_of app.price) in
    on_refusals app outcome.plan outcome.refused next

module _ (texts : TextsData) where
  -- The chip and the application of the texts.
  abbrev pub design_text : Judging Design
  design_text next =
      judgement (codes "chip") (chip_of texts.chip) (λ chip.
      judgement (codes "app") (app_of chip texts.app) (λ app.
      next (record { chip = chip; app = app })))

  -- The words, the receivers' rows and the switches of the texts, for an application whose switches
  -- take so long.
  abbrev pub traces_texts : AppData → SpanData → Judging Traces
  traces_texts app spans next =
      judgement (codes "words") (words_of app texts.words) (λ words.
      judgement (codes "receivers") (receivers_of app texts.receivers) (λ pulls.
      judgement (codes "switches") (switches_of app spans texts.switches) (λ switches.
      next (record { words = words; receivers = pulls; switches = switches }))))

-- What the run of inputs comes to.
abbrev pub summary_job : (Inputs → LogData) → ℕ → Inputs → Job
summary_job outcome n inputs = done (summary_text n inputs.plan (outcome inputs))

module _ (outcome : Inputs → LogData) (n : ℕ) (texts : TextsData) where
  -- For an accepted plan the traces are judged, and the run is simulated.
  abbrev pub traced_demo : Design → PlanData → Task
  traced_demo design plan =
      traces_texts texts design.app
      (spans_of design.chip design.app (groups_of design.app) plan) (λ traces.
      ends (summary_job outcome n (inputs_of design plan traces demo_cycles)))

  -- For a chip and an application the units are granted.
  abbrev pub planned_demo : Design → Task
  planned_demo design = granted_plan design.chip design.app (λ plan. traced_demo design plan)

  -- A chip and an application are judged, then the units are granted, and then the traces are judged.
  abbrev pub texts_task : Task
  texts_task = design_text texts (λ design. planned_demo design)

-- The texts are those of the number.
abbrev pub demo_task : (Inputs → LogData) → ℕ → Task
demo_task outcome n = texts_task outcome n (texts_of n)
