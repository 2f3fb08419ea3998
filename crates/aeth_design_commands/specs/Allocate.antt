-- `allocate CHIP APP`: the plan of the allocation, or the units that are refused.
-- This project's own.
use Rattle.std.proofs.Common.{ℕ, ◌++◌, List, [], ◌∷◌, flat_map, Option, Some, None, codes, decimal}
use Rattle.aeth_alloc.specs.{Allocation.OutcomeData, Allocation.allocation, Prices.prices_of}
use Rattle.aeth_alloc.specs.{declared.outcome.Refused.Refused}
use Rattle.aeth_app.specs.App.{AppData}
use Rattle.aeth_chip.specs.Chip.{ChipData}
use Rattle.aeth_group.specs.Members.{groups_of}
use Rattle.aeth_plan.specs.PlanText.{plan_text}
use Rattle.aeth_design_commands.specs.declared.command.DesignCommand.{DesignCommand}
use Rattle.aeth_files.specs.{Files.design_file, Plans.side_text}
use Rattle.aeth_answers.specs.{Job.Job, Job.done, Job.not_granted, Task.Task, Task.ends}
use Rattle.aeth_answers.specs.{Words.◌>>=◌, Words.file_name_of}
use Rattle.aeth_design_commands.specs.declared.command.DesignCommand.TheVariants as command

-- CHIP a chip file, APP an application file.
abbrev pub allocate_command : List (List ℕ) → Option DesignCommand
allocate_command (chip_word ∷ app_word ∷ []) = do
  chip ← file_name_of chip_word
  app ← file_name_of app_word
  Some (command.Allocate chip app)
allocate_command words = None

-- `refused unit CONN GROUP SIDE TURN`: the side of a unit that has no candidate, and the unit's turn.
abbrev pub refusal_text : AppData → Refused → List ℕ
refusal_text app refused =
    codes "refused unit " ++ side_text app refused.unit refused.side
    ++ codes " " ++ decimal refused.turn ++ codes "\n"

-- A line for each refused unit.
abbrev pub refusals_text : AppData → List Refused → List ℕ
refusals_text app refused = flat_map (refusal_text app) refused

-- What an allocation comes to: the plan's text, or the refused units in the order of turns.
abbrev pub outcome_job : ChipData → AppData → OutcomeData → List Refused → Job
outcome_job chip app outcome [] = done (plan_text chip app outcome.plan)
outcome_job chip app outcome (refused ∷ others) =
    not_granted (refusals_text app (refused ∷ others))

-- The job of an allocation by the application's price.
abbrev pub allocation_job : ChipData → AppData → OutcomeData → Job
allocation_job chip app outcome = outcome_job chip app outcome outcome.refused

-- The job of an application on a chip: its cores are seated and its channels granted.
abbrev pub allocate_job : ChipData → AppData → Job
allocate_job chip app =
    allocation_job chip app (allocation chip app (groups_of app) (prices_of app.price))

-- A chip file and an application file are read, and the application is allocated.
abbrev pub allocate_task : List ℕ → List ℕ → Task
allocate_task chip_name app_name =
    design_file chip_name app_name (λ design. ends (allocate_job design.chip design.app))
