-- `links CHIP APP PLAN WORDS RECEIVERS SWITCHES CYCLES`: what the links carry in a run of an accepted
-- plan, as a log of links.
-- This project's own.
use Rattle.std.proofs.Common.{ℕ, ◌≤◌, List, [], ◌∷◌, Option, Some, None, codes, if◌then◌else◌}
use Rattle.std.specs.Str.{bytes_eq}
use Rattle.aeth_accepted.specs.Inputs.{Inputs, run_of}
use Rattle.aeth_answers.specs.{Job.Job, Job.done, Task.Task, Task.ends, Words.◌>>=◌}
use Rattle.aeth_answers.specs.{Words.number_within}
use Rattle.aeth_links.specs.Carried.{carried_rows, log_text}
use Rattle.aeth_run_commands.specs.TracedDesigns.{files_named, traced_design, traced_inputs}
use Rattle.aeth_cli.specs.{Limits.max_logged_cycles, declared.commands.links.LoggedRun.LoggedRun}

-- CHIP a chip file, APP an application file, PLAN a plan text; WORDS, RECEIVERS and SWITCHES trace
-- files; CYCLES the number of cycles.
abbrev pub links_words : List (List ℕ) → Option LoggedRun
links_words (chip ∷ app ∷ plan ∷ words ∷ receivers ∷ switches ∷ cycles_word ∷ []) = do
  files ← files_named chip app plan words receivers switches
  cycles ← number_within 1 max_logged_cycles cycles_word
  Some (record { files = files; cycles = cycles })
links_words words = None

-- The run that a name and the words behind it ask for, if they are the command.
abbrev pub links_command : List ℕ → List (List ℕ) → Option LoggedRun
links_command name words = if bytes_eq name (codes "links") then links_words words else None

-- The number of cycles is in the range of its word.
abbrev pub HasRanges : LoggedRun → Type 0
HasRanges run = (1 ≤ run.cycles) × (run.cycles ≤ max_logged_cycles)

-- The log of what the links carry in the run of inputs.
abbrev pub links_job : Inputs → Job
links_job inputs = done (log_text (carried_rows (run_of inputs)))

-- A chip file and an application file are read, then a plan for these, and then the traces; and the
-- log is made.
abbrev pub links_task : LoggedRun → Task
links_task run = traced_design run.files (λ one. ends (links_job (traced_inputs one run.cycles)))
