-- The commands on designs, and what each asks for.
-- This project's own.
use Rattle.std.proofs.Common.{ℕ, ◌≤◌, List, Option, None, codes, if◌then◌else◌}
use Rattle.std.specs.{Prelude.⊤, Str.bytes_eq}
use Rattle.aeth_answers.specs.Task.{Task, ends}
use Rattle.aeth_base.specs.Limits.{max_path_delay, max_slots}
use Rattle.aeth_design_commands.specs.{Allocate.allocate_command, Allocate.allocate_task}
use Rattle.aeth_design_commands.specs.{App.app_command, App.app_task, Check.check_command}
use Rattle.aeth_design_commands.specs.{Check.check_task, Chip.chip_command, Chip.chip_task}
use Rattle.aeth_design_commands.specs.{Server.latency_job, Server.server_command, Slots.chosen_job}
use Rattle.aeth_design_commands.specs.{Slots.slots_command}
use Rattle.aeth_design_commands.specs.{declared.command.DesignCommand.DesignCommand}
use Rattle.aeth_design_commands.specs.declared.command.DesignCommand.TheVariants as command

-- The command on a design that a name and the words behind it are, if they are one.
abbrev pub design_command : List ℕ → List (List ℕ) → Option DesignCommand
design_command name words =
    if bytes_eq name (codes "slots") then slots_command words
    else if bytes_eq name (codes "server") then server_command words
    else if bytes_eq name (codes "chip") then chip_command words
    else if bytes_eq name (codes "app") then app_command words
    else if bytes_eq name (codes "allocate") then allocate_command words
    else if bytes_eq name (codes "check") then check_command words
    else None

-- The numbers of a command are in the ranges of its words.
abbrev pub HasRanges : DesignCommand → Type 0
HasRanges (command.Slots need gap free) = 1 ≤ need
HasRanges (command.Server need links slots) =
    (1 ≤ need) × (need ≤ max_slots) × (links ≤ max_path_delay)
HasRanges (command.Chip chip) = ⊤
HasRanges (command.App chip app) = ⊤
HasRanges (command.Allocate chip app) = ⊤
HasRanges (command.Check chip app plan) = ⊤

-- What a command does.
abbrev pub design_task : DesignCommand → Task
design_task (command.Slots need gap free) = ends (chosen_job need gap free)
design_task (command.Server need links slots) = ends (latency_job need links slots)
design_task (command.Chip chip) = chip_task chip
design_task (command.App chip app) = app_task chip app
design_task (command.Allocate chip app) = allocate_task chip app
design_task (command.Check chip app plan) = check_task chip app plan
