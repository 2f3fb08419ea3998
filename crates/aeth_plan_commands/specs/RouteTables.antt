-- `route-tables CHIP APP PLAN USE`: the tables of routers that look a table up, in a use case.
-- This project's own.
use Rattle.std.proofs.Common.{ℕ, List, Option, Some}
use Rattle.aeth_group.specs.Members.{groups_of}
use Rattle.aeth_rtable.specs.{Rows.router_rows, RouteText.route_text}
use Rattle.aeth_answers.specs.{Job.Job, Job.done, Task.Task, Task.ends, Words.◌>>=◌}
use Rattle.aeth_plan_commands.specs.PlannedUses.{PlannedUseData, planned_use, use_files_of}
use Rattle.aeth_plan_commands.specs.declared.command.PlanCommand.{PlanCommand}
use Rattle.aeth_plan_commands.specs.declared.planned_uses.UseFiles.{UseFiles}
use Rattle.aeth_plan_commands.specs.declared.command.PlanCommand.TheVariants as command

-- CHIP a chip file, APP an application file, PLAN a plan text, USE the name of a use case.
abbrev pub route_tables_command : List (List ℕ) → Option PlanCommand
route_tables_command words = do
  files ← use_files_of words
  Some (command.RouteTables files)

-- The text of the router tables of a use case.
abbrev pub route_tables_job : PlannedUseData → Job
route_tables_job one = done (route_text one.design.app one.use_case.0
    (router_rows one.design.chip (groups_of one.design.app) one.plan one.use_case.0))

-- The files are read, and the text is made.
abbrev pub route_tables_task : UseFiles → Task
route_tables_task files = planned_use files (λ one. ends (route_tables_job one))
