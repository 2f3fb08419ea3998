-- The commands on accepted plans, and what each asks for.
-- This project's own.
use Rattle.std.proofs.Common.{ℕ, ◌≤◌, List, Option, None, codes, if◌then◌else◌}
use Rattle.std.specs.{Prelude.⊤, Str.bytes_eq}
use Rattle.aeth_answers.specs.Task.{Task}
use Rattle.aeth_base.specs.Limits.{max_cycles}
use Rattle.aeth_chain.specs.ItemNames.{AreItemNames}
use Rattle.aeth_plan_commands.specs.{Audit.audit_command, Audit.audit_task, Chain.chain_command}
use Rattle.aeth_plan_commands.specs.{Chain.chain_task, RouteTables.route_tables_command}
use Rattle.aeth_plan_commands.specs.{RouteTables.route_tables_task, Tables.tables_command}
use Rattle.aeth_plan_commands.specs.{Tables.tables_task, declared.command.PlanCommand.PlanCommand}
use Rattle.aeth_plan_commands.specs.declared.command.PlanCommand.TheVariants as command

-- The command on a plan that a name and the words behind it are, if they are one.
abbrev pub plan_command : List ℕ → List (List ℕ) → Option PlanCommand
plan_command name words =
    if bytes_eq name (codes "tables") then tables_command words
    else if bytes_eq name (codes "route-tables") then route_tables_command words
    else if bytes_eq name (codes "audit") then audit_command words
    else if bytes_eq name (codes "chain") then chain_command words
    else None

-- The numbers of a command are in the ranges of its words.
abbrev pub HasRanges : PlanCommand → Type 0
HasRanges (command.Tables files) = ⊤
HasRanges (command.RouteTables files) = ⊤
HasRanges (command.Audit files cycles) = (1 ≤ cycles) × (cycles ≤ max_cycles)
HasRanges (command.Chain files name items cycles) =
    AreItemNames items × (1 ≤ cycles) × (cycles ≤ max_cycles)

-- What a command does.
abbrev pub plan_task : PlanCommand → Task
plan_task (command.Tables files) = tables_task files
plan_task (command.RouteTables files) = route_tables_task files
plan_task (command.Audit files cycles) = audit_task files cycles
plan_task (command.Chain files name items cycles) = chain_task files name items cycles
