-- A chip and an application with an accepted plan and traces, which commands on runs read together.
-- This project's own.
use Rattle.std.proofs.Common.{ℕ, List, Option, Some}
use Rattle.aeth_accepted.specs.Inputs.{Inputs}
use Rattle.aeth_answers.specs.{Task.Judging, Words.◌>>=◌, Words.file_name_of}
use Rattle.aeth_files.specs.Files.{design_file}
use Rattle.aeth_run_files.specs.Runs.{RunData, data_of, run_files}
use Rattle.aeth_run_files.specs.declared.runs.RunFiles.{RunFiles}
use Rattle.aeth_machine.specs.RunInputs.{inputs_of}
use Rattle.aeth_plan.specs.declared.design.Design.{Design}
use Rattle.aeth_run_commands.specs.declared.traced_designs.TracedDesign.{TracedDesign}

-- The files of a run by their names: a chip file, an application file, a plan text, and words,
-- receivers' rows and switches.
abbrev pub files_named : List ℕ → List ℕ → List ℕ → List ℕ → List ℕ → List ℕ → Option RunFiles
files_named chip_word app_word plan_word words_word receivers_word switches_word = do
  chip ← file_name_of chip_word
  app ← file_name_of app_word
  plan ← file_name_of plan_word
  words ← file_name_of words_word
  receivers ← file_name_of receivers_word
  switches ← file_name_of switches_word
  Some (record {
    chip = chip;
    app = app;
    plan = plan;
    words = words;
    receivers = receivers;
    switches = switches;
  })

-- A chip and an application, and a plan and traces for these.
pub record TracedData : Type 0 where
  pub design : Design
  pub run : RunData

-- What is seen of a chip and an application with these.
abbrev pub seen_traced : TracedDesign → TracedData
seen_traced one = record { design = one.design; run = data_of one.run }

-- The inputs of their run of so many cycles.
abbrev pub traced_inputs : TracedData → ℕ → Inputs
traced_inputs one cycles = inputs_of one.design one.run.plan one.run.traces cycles

-- For a chip and an application a plan text is read, its plan is accepted, and then the traces are
-- read.
abbrev pub traced_for : RunFiles → Design → Judging TracedData
traced_for files design next =
    run_files design files (λ run. next (record { design = design; run = run }))

-- A chip file and an application file are read, then a plan for these, and then the traces.
abbrev pub traced_design : RunFiles → Judging TracedData
traced_design files next =
    design_file files.chip files.app (λ design. traced_for files design next)
