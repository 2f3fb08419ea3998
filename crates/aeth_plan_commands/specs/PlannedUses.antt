-- A use case with an accepted plan, which commands read together.
-- This project's own.
use Rattle.std.proofs.Common.{ℕ, List, [], ◌∷◌, Option, Some, None}
use Rattle.aeth_base.specs.{Name.name_of, declared.ids.UseId.UseId}
use Rattle.aeth_plan.specs.{Plan.PlanData, declared.design.Design.Design}
use Rattle.aeth_answers.specs.{Task.Judging, Words.◌>>=◌, Words.file_name_of}
use Rattle.aeth_files.specs.{Files.design_file, Plans.accepted_file, Uses.named_use}
use Rattle.aeth_plan_commands.specs.declared.planned_uses.{PlannedUse.PlannedUse, UseFiles.UseFiles}

-- A chip, an application, a plan for these, and a use case.
pub record PlannedUseData : Type 0 where
  pub design : Design
  pub plan : PlanData
  pub use_case : UseId

-- CHIP a chip file, APP an application file, PLAN a plan text, USE the name of a use case.
abbrev pub use_files_of : List (List ℕ) → Option UseFiles
use_files_of (chip_word ∷ app_word ∷ plan_word ∷ use_word ∷ []) = do
  chip ← file_name_of chip_word
  app ← file_name_of app_word
  plan ← file_name_of plan_word
  name ← name_of use_word
  Some (record { chip = chip; app = app; plan = plan; name = name })
use_files_of words = None

-- What is seen of a use case with its plan.
abbrev pub seen_use : PlannedUse → PlannedUseData
seen_use one = record { design = one.design; plan = one.planned.plan; use_case = one.use_case }

module _ (files : UseFiles) where
  -- For a chip, an application and a use case of it a plan text is read, and the plan is accepted.
  abbrev pub plan_for : Design → UseId → Judging PlannedUseData
  plan_for design u next = accepted_file design.chip design.app files.plan (λ plan.
      next (record { design = design; plan = plan; use_case = u }))

  -- For a chip and an application the use case is one of the application's, and then a plan is
  -- read.
  abbrev pub use_for : Design → Judging PlannedUseData
  use_for design next = named_use design.app files.name (λ u. plan_for design u next)

  -- A chip file and an application file are read, then the use case is found, and then a plan for
  -- these is read.
  abbrev pub planned_use : Judging PlannedUseData
  planned_use next = design_file files.chip files.app (λ design. use_for design next)
