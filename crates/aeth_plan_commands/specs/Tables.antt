-- `tables CHIP APP PLAN USE`: the tables of the interfaces in a use case.
-- This project's own.
use Rattle.std.proofs.Common.{ℕ, List, Option, Some}
use Rattle.aeth_group.specs.Members.{groups_of}
use Rattle.aeth_tables.specs.{Tables.tables_of, TableText.table_text}
use Rattle.aeth_answers.specs.{Job.Job, Job.done, Task.Task, Task.ends, Words.◌>>=◌}
use Rattle.aeth_plan_commands.specs.PlannedUses.{PlannedUseData, planned_use, use_files_of}
use Rattle.aeth_plan_commands.specs.declared.command.PlanCommand.{PlanCommand}
use Rattle.aeth_plan_commands.specs.declared.planned_uses.UseFiles.{UseFiles}
use Rattle.aeth_plan_commands.specs.declared.command.PlanCommand.TheVariants as command

-- CHIP a chip file, APP an application file, PLAN a plan text, USE the name of a use case.
abbrev pub tables_command : List (List ℕ) → Option PlanCommand
tables_command words = do
  files ← use_files_of words
  Some (command.Tables files)

-- The text of the tables of a use case.
abbrev pub tables_job : PlannedUseData → Job
tables_job one = done (table_text one.design.chip one.design.app
    (tables_of one.design.chip one.design.app (groups_of one.design.app) one.plan one.use_case))

-- The files are read, and the text is made.
abbrev pub tables_task : UseFiles → Task
tables_task files = planned_use files (λ one. ends (tables_job one))
