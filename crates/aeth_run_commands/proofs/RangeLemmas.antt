-- The words of commands that simulate name a number of cycles within the limit.
use Rattle.std.proofs.Common.{◌≡◌, ◌≤◌, ℕ, Bool, true, false, List, [], ◌∷◌, Option, Some, None}
use Rattle.std.proofs.Common.{refl, if◌then◌else◌, codes}
use Rattle.std.specs.{Prelude.⊤, Option.option_and_then, Option.option_map, Str.bytes_eq}
use Rattle.aeth_answers.{proofs.Reading.number_within-bounds, specs.Words.number_within}
use Rattle.aeth_base.specs.Limits.{max_cycles}
use Rattle.aeth_demo.specs.Limits.{max_demo_number}
use Rattle.aeth_run_commands.specs.{Commands.run_command, Demo.demo_command}
use Rattle.aeth_run_commands.specs.{TracedDesigns.files_named, Simulate.simulated_run}
use Rattle.aeth_run_commands.specs.{Simulate.turn_of, declared.command.RunCommand.RunCommand}
use Rattle.aeth_run_commands.specs.{declared.simulate.SimulatedRun.SimulatedRun}
use Rattle.aeth_run_commands.specs.declared.command.RunCommand.TheVariants as command

-- Where a command simulates, its cycles are within the limit.
abbrev pub IsShort : Option RunCommand → Type 0
IsShort None = ⊤
IsShort (Some (command.Simulate run)) = run.cycles ≤ max_cycles
IsShort (Some (command.SimulateTables run)) = run.cycles ≤ max_cycles
IsShort (Some (command.Demo number)) = ⊤

-- The same of a run that words name.
abbrev IsShortRun : Option SimulatedRun → Type 0
IsShortRun None = ⊤
IsShortRun (Some run) = run.cycles ≤ max_cycles

-- What comes of a value is short, where it is for each value that there can be.
short_then : {A : Type 0} (value : Option A) (next : A → Option SimulatedRun)
    → ((one : A) → value ≡ Some one → IsShortRun (next one))
    → IsShortRun (option_and_then next value)
short_then None next short = tt
short_then (Some one) next short = short one refl

-- The words of a run are short.
short_words : (words : List (List ℕ)) → IsShortRun (simulated_run words)
short_words (chip ∷ app ∷ plan ∷ words ∷ receivers ∷ switches ∷ cycles ∷ rest) =
    short_then (files_named chip app plan words receivers switches) _ (λ _ _.
    short_then (number_within 1 max_cycles cycles) _ (λ count told.
    short_then (turn_of rest) _ (λ _ _. (number_within-bounds 1 max_cycles cycles count told).1)))
short_words words = tt

-- A command is short as its run is.
short_simulate : (said : Option SimulatedRun) → IsShortRun said
    → IsShort (option_map command.Simulate said)
short_simulate None short = tt
short_simulate (Some run) short = short

short_tables : (said : Option SimulatedRun) → IsShortRun said
    → IsShort (option_map command.SimulateTables said)
short_tables None short = tt
short_tables (Some run) short = short

-- One of two commands is short, where both are.
short_if : (test : Bool) (one other : Option RunCommand) → IsShort one → IsShort other
    → IsShort (if test then one else other)
short_if true one other first second = first
short_if false one other first second = second

-- A number is no run.
short_number : (said : Option ℕ) → IsShort (option_and_then (λ n. Some (command.Demo n)) said)
short_number None = tt
short_number (Some number) = tt

short_demo : (words : List (List ℕ)) → IsShort (demo_command words)
short_demo (number ∷ []) = short_number (number_within 0 max_demo_number number)
short_demo words = tt

-- Each command is short.
pub command_short : (name : List ℕ) (words : List (List ℕ)) → IsShort (run_command name words)
command_short name words =
    short_if (bytes_eq name (codes "simulate")) _ _
    (short_simulate (simulated_run words) (short_words words)) (
    short_if (bytes_eq name (codes "simulate-tables")) _ _
    (short_tables (simulated_run words) (short_words words)) (
    short_if (bytes_eq name (codes "demo")) _ _ (short_demo words) (tt {0})))
