-- What jobs stand on: values that files of the shelf told.
--
--   IsDesignTold      a chip and an application for it
--   IsPlanTold      these, and a plan that is accepted for them
--   AreInputsTold      accepted inputs of a run
--   IsSimulated      a job is the log of accepted inputs
--   IsAllocated      a job is the allocation of a chip and an application
-- This project's own.
use Rattle.std.proofs.Common.{ℕ, ◌≡◌, List, Option}
use Rattle.aeth_accepted.specs.Inputs.{AreAccepted, Inputs}
use Rattle.aeth_app.specs.{App.IsApp, App.IsAppOf, AppFile.app_of}
use Rattle.aeth_chip.specs.{Chip.IsChip, ChipFile.chip_of}
use Rattle.aeth_group.specs.Members.{groups_of}
use Rattle.aeth_plan.specs.{Plan.PlanData, PlanText.plan_of, Design.IsDesign}
use Rattle.aeth_plan.specs.{declared.design.Design.Design}
use Rattle.aeth_report.specs.Log.{LogData}
use Rattle.aeth_tables.specs.Switching.{spans_of}
use Rattle.aeth_trace.specs.{Receivers.receivers_of, Switches.switches_of, Words.words_of}
use Rattle.aeth_answers.specs.Job.{Job}
use Rattle.aeth_run_files.specs.declared.runs.RunFiles.{RunFiles}
use Rattle.aeth_files.specs.Told.{IsTold}
use Rattle.aeth_design_commands.specs.Allocate.{allocate_job}
use Rattle.aeth_run_commands.specs.Simulate.{simulation_job}

module _ (content : List ℕ → Option (List ℕ)) where
  -- A chip and an application for it, which their files told.
  pub record IsDesignTold (chip_name app_name : List ℕ) (design : Design) : Type 0 where
    pub chip_told : IsTold content chip_name chip_of design.chip
    pub app_told : IsTold content app_name (app_of design.chip) design.app
    pub chip_is : IsChip design.chip
    pub app_is : IsApp design.app
    pub of_chip : IsAppOf design.chip design.app

  -- These, and a plan that its file told and that is accepted for them.
  pub record IsPlanTold (chip_name app_name plan_name : List ℕ) (design : Design) (plan : PlanData)
      : Type 0 where
    pub design_told : IsDesignTold chip_name app_name design
    pub plan_told : IsTold content plan_name
        (plan_of design.chip design.app (groups_of design.app)) plan
    pub accepted : IsDesign design.chip design.app plan

  -- Accepted inputs of a run of so many cycles, each of which its file told.
  pub record AreInputsTold (files : RunFiles) (cycles : ℕ) (inputs : Inputs) : Type 0 where
    pub accepted : AreAccepted inputs
    pub chip : IsTold content files.chip chip_of inputs.chip
    pub app : IsTold content files.app (app_of inputs.chip) inputs.app
    pub plan : IsTold content files.plan (plan_of inputs.chip inputs.app (groups_of inputs.app))
        inputs.plan
    pub words : IsTold content files.words (words_of inputs.app) inputs.words
    pub receivers : IsTold content files.receivers (receivers_of inputs.app) inputs.pulls
    pub switches : IsTold content files.switches (switches_of inputs.app
        (spans_of inputs.chip inputs.app (groups_of inputs.app) inputs.plan)) inputs.switches
    pub cycles_are : inputs.cycles ≡ cycles

-- The job is that of accepted inputs, each of which its file told.
pub record IsSimulated (outcome : Inputs → LogData) (content : List ℕ → Option (List ℕ))
    (files : RunFiles) (cycles : ℕ) (asked : Job) : Type 0 where
  pub inputs : Inputs
  pub told : AreInputsTold content files cycles inputs
  pub job_is : asked ≡ simulation_job outcome inputs

-- The job is the allocation of an application on a chip, which their files told.
pub record IsAllocated (content : List ℕ → Option (List ℕ)) (chip_name app_name : List ℕ)
    (asked : Job) : Type 0 where
  pub design : Design
  pub told : IsDesignTold content chip_name app_name design
  pub job_is : asked ≡ allocate_job design.chip design.app
