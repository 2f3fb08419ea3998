-- A chip file of version 1, and the same document with version 2 in its place.
--
--   AreVersions      two shelves have the same files but these two
--   AreDesignVersions, AreRefusalVersions, ArePlanVersions      and a command reads them as its chip
--   AreFileVersions      the same of the files of a run
-- This project's own.
use Rattle.std.proofs.Common.{ℕ, ◌≡◌, ◌≢◌, ◌≤◌, List, Ok, Option, Some, length, pos}
use Rattle.std.specs.Prelude.{⊤}
use Rattle.aeth_chip.specs.{Chip.ChipData, ChipFile.chip_of, Told.version_of, Versions.in_version_2}
use Rattle.aeth_document.specs.Document.{document_of}
use Rattle.aeth_design_commands.specs.declared.command.DesignCommand.{DesignCommand}
use Rattle.aeth_explain_commands.specs.declared.command.ExplainCommand.{ExplainCommand}
use Rattle.aeth_run_files.specs.declared.runs.RunFiles.{RunFiles}
use Rattle.aeth_io.specs.Limits.{max_file_bytes}
use Rattle.aeth_plan_commands.specs.declared.command.PlanCommand.{PlanCommand}
use Rattle.toml.specs.Data.{Members}
use Rattle.aeth_design_commands.specs.declared.command.DesignCommand.TheVariants as design
use Rattle.aeth_explain_commands.specs.declared.command.ExplainCommand.TheVariants as refusals
use Rattle.aeth_plan_commands.specs.declared.command.PlanCommand.TheVariants as plan

module _ (old new : List ℕ → Option (List ℕ)) where
  -- The file of a name tells a chip by a document of version 1 on the one shelf, and on the other it has
  -- the same document with version 2. All other files are the same.
  pub record AreVersions (name : List ℕ) : Type 0 where
    pub first : List ℕ
    pub second : List ℕ
    pub held : old name ≡ Some first
    pub held_behind : new name ≡ Some second
    pub short : length first ≤ max_file_bytes
    pub short_behind : length second ≤ max_file_bytes
    pub root : Members
    pub document : document_of first ≡ Some root
    pub document_behind : document_of second ≡ Some (in_version_2 root)
    pub version : version_of root ≡ pos 1
    pub chip : ChipData
    pub told : chip_of first ≡ Ok chip
    pub others : (other : List ℕ) → other ≢ name → old other ≡ new other

  -- A command on designs reads them as its chip, and no other file by this name.
  abbrev pub AreDesignVersions : DesignCommand → Type 0
  AreDesignVersions (design.Chip chip) = AreVersions chip
  AreDesignVersions (design.App chip app) = AreVersions chip × (app ≢ chip)
  AreDesignVersions (design.Allocate chip app) = AreVersions chip × (app ≢ chip)
  AreDesignVersions (design.Check chip app plan_name) =
      AreVersions chip × (app ≢ chip) × (plan_name ≢ chip)
  AreDesignVersions other = ⊤

  -- So does one on refusals.
  abbrev pub AreRefusalVersions : ExplainCommand → Type 0
  AreRefusalVersions (refusals.Explain chip app) = AreVersions chip × (app ≢ chip)
  AreRefusalVersions (refusals.Confirm chip app cert) =
      AreVersions chip × (app ≢ chip) × (cert ≢ chip)

  -- So does one on plans.
  abbrev pub ArePlanVersions : PlanCommand → Type 0
  ArePlanVersions (plan.Tables files) =
      AreVersions files.chip × (files.app ≢ files.chip) × (files.plan ≢ files.chip)
  ArePlanVersions (plan.RouteTables files) =
      AreVersions files.chip × (files.app ≢ files.chip) × (files.plan ≢ files.chip)
  ArePlanVersions (plan.Audit files cycles) =
      AreVersions files.chip × (files.app ≢ files.chip) × (files.plan ≢ files.chip)
      × (files.switches ≢ files.chip) × (files.log ≢ files.chip)
  ArePlanVersions (plan.Chain files name items cycles) =
      AreVersions files.chip × (files.app ≢ files.chip) × (files.plan ≢ files.chip)
      × (files.words ≢ files.chip) × (files.receivers ≢ files.chip)

  -- So does one that reads the files of a run.
  pub record AreFileVersions (files : RunFiles) : Type 0 where
    pub versions : AreVersions files.chip
    pub app : files.app ≢ files.chip
    pub plan : files.plan ≢ files.chip
    pub words : files.words ≢ files.chip
    pub receivers : files.receivers ≢ files.chip
    pub switches : files.switches ≢ files.chip
