-- What tables, runs and their laws are about: a chip, an application for it, and an accepted plan.
-- This project's own.
use Rattle.aeth_chip.specs.Chip.{ChipData, IsChip}
use Rattle.aeth_app.specs.App.{AppData, IsApp}
use Rattle.aeth_group.specs.Members.{groups_of}
use Rattle.aeth_plan.specs.{Accepted.IsAccepted, Plan.IsPlanOf, Plan.PlanData}

-- A chip, an application, and a plan for them that is accepted.
pub record IsDesign (chip : ChipData) (app : AppData) (plan : PlanData) : Type 0 where
  pub chip_is : IsChip chip
  pub app_is : IsApp app
  pub plan_is : IsPlanOf chip app (groups_of app) plan
  pub accepted : IsAccepted chip app (groups_of app) plan
