-- The commands that play runs, and what each asks for.
-- This project's own.
use Rattle.std.proofs.Common.{ℕ, ◌≤◌, List, Option, None, codes, if◌then◌else◌}
use Rattle.std.specs.{Option.option_map, Str.bytes_eq}
use Rattle.aeth_answers.specs.Task.{Task}
use Rattle.aeth_demo.specs.Limits.{max_demo_number}
use Rattle.aeth_run_commands.specs.{Demo.demo_command, Demo.demo_task, Outcomes.Outcomes}
use Rattle.aeth_run_commands.specs.{Simulate.HasCycles, Simulate.simulate_task}
use Rattle.aeth_run_commands.specs.{Simulate.simulated_run, declared.command.RunCommand.RunCommand}
use Rattle.aeth_run_commands.specs.declared.command.RunCommand.TheVariants as command

-- The command on a run that a name and the words behind it are, if they are one.
abbrev pub run_command : List ℕ → List (List ℕ) → Option RunCommand
run_command name words =
    if bytes_eq name (codes "simulate") then option_map command.Simulate (simulated_run words)
    else if bytes_eq name (codes "simulate-tables")
    then option_map command.SimulateTables (simulated_run words)
    else if bytes_eq name (codes "demo") then demo_command words
    else None

-- The numbers of a command are in the ranges of its words.
abbrev pub HasRanges : RunCommand → Type 0
HasRanges (command.Simulate run) = HasCycles run
HasRanges (command.SimulateTables run) = HasCycles run
HasRanges (command.Demo number) = number ≤ max_demo_number

-- What a command does, with the logs that inputs give.
abbrev pub run_task : Outcomes → RunCommand → Task
run_task outcomes (command.Simulate run) = simulate_task outcomes.headers run.files run.cycles
run_task outcomes (command.SimulateTables run) = simulate_task outcomes.tables run.files run.cycles
run_task outcomes (command.Demo number) = demo_task outcomes.headers number
