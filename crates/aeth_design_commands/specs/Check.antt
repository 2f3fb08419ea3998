-- `check CHIP APP PLAN`: whether a plan is accepted, or the first rule that it breaks.
-- This project's own.
use Rattle.std.proofs.Common.{ℕ, List, [], ◌∷◌, Option, Some, None, codes}
use Rattle.aeth_plan.specs.declared.design.Design.{Design}
use Rattle.aeth_design_commands.specs.declared.command.DesignCommand.{DesignCommand}
use Rattle.aeth_files.specs.{Files.design_file, Plans.accepted_file}
use Rattle.aeth_answers.specs.{Job.done, Task.Task, Task.ends, Words.◌>>=◌, Words.file_name_of}
use Rattle.aeth_design_commands.specs.declared.command.DesignCommand.TheVariants as command

-- CHIP a chip file, APP an application file, PLAN a plan text.
abbrev pub check_command : List (List ℕ) → Option DesignCommand
check_command (chip_word ∷ app_word ∷ plan_word ∷ []) = do
  chip ← file_name_of chip_word
  app ← file_name_of app_word
  plan ← file_name_of plan_word
  Some (command.Check chip app plan)
check_command words = None

-- For a chip and an application a plan text is read, and the plan is accepted.
abbrev pub plan_task : Design → List ℕ → Task
plan_task design plan_name =
    accepted_file design.chip design.app plan_name (λ _. ends (done (codes "accepted\n")))

-- A chip file and an application file are read, and then a plan for these.
abbrev pub check_task : List ℕ → List ℕ → List ℕ → Task
check_task chip_name app_name plan_name =
    design_file chip_name app_name (λ design. plan_task design plan_name)
