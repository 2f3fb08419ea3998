-- `simulate CHIP APP PLAN WORDS RECEIVERS SWITCHES CYCLES [TURN]`, and `simulate-tables` with the same
-- words: what a run of an accepted plan shows. The turn says in which order components take their
-- turns; no text rests on it.
-- This project's own.
use Rattle.std.proofs.Common.{ℕ, ◌≤◌, List, [], ◌∷◌, Option, Some, None}
use Rattle.aeth_accepted.specs.Inputs.{Inputs}
use Rattle.aeth_base.specs.Limits.{max_cycles}
use Rattle.aeth_report.specs.{Log.LogData, LogText.text_of}
use Rattle.aeth_run_commands.specs.declared.simulate.SimulatedRun.{SimulatedRun}
use Rattle.aeth_run_commands.specs.Limits.{max_turn}
use Rattle.aeth_run_commands.specs.TracedDesigns.{files_named, traced_design, traced_inputs}
use Rattle.aeth_run_files.specs.declared.runs.RunFiles.{RunFiles}
use Rattle.aeth_answers.specs.{Job.Job, Job.done, Task.Task, Task.ends, Words.◌>>=◌}
use Rattle.aeth_answers.specs.{Words.number_within}

-- TURN; 0 where it is absent.
abbrev pub turn_of : List (List ℕ) → Option ℕ
turn_of [] = Some 0
turn_of (turn_word ∷ []) = number_within 0 max_turn turn_word
turn_of (turn_word ∷ other ∷ more) = None

-- CHIP a chip file, APP an application file, PLAN a plan text; WORDS, RECEIVERS and SWITCHES trace
-- files; CYCLES the number of cycles.
abbrev pub simulated_run : List (List ℕ) → Option SimulatedRun
simulated_run (chip ∷ app ∷ plan ∷ words ∷ receivers ∷ switches ∷ cycles_word ∷ rest) = do
  files ← files_named chip app plan words receivers switches
  cycles ← number_within 1 max_cycles cycles_word
  turn ← turn_of rest
  Some (record { files = files; cycles = cycles; turn = turn })
simulated_run words = None

-- The number of cycles is in the range of its word.
abbrev pub HasCycles : SimulatedRun → Type 0
HasCycles run = (1 ≤ run.cycles) × (run.cycles ≤ max_cycles)

module _ (outcome : Inputs → LogData) where
  -- The text of the log that the inputs of a run give.
  abbrev pub simulation_job : Inputs → Job
  simulation_job inputs = done (text_of inputs.app (outcome inputs))

  -- A chip file and an application file are read, then a plan for these, and then the traces; and
  -- the run is simulated.
  abbrev pub simulate_task : RunFiles → ℕ → Task
  simulate_task files cycles =
      traced_design files (λ one. ends (simulation_job (traced_inputs one cycles)))
