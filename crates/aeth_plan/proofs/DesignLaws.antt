-- Plans that are accepted with the groups of their application.
use Rattle.std.proofs.Common.{◌≡◌, subst}
use Rattle.aeth_chip.specs.Chip.{ChipData, IsChip}
use Rattle.aeth_app.specs.App.{AppData, IsApp}
use Rattle.aeth_group.specs.Members.{GroupsData, groups_of}
use Rattle.aeth_plan.specs.{Accepted.IsAccepted, Design.IsDesign, Plan.IsPlanOf, Plan.PlanData}

-- The plan is accepted for the chip and the application.
pub design_of : (chip : ChipData) (app : AppData) (groups : GroupsData) (plan : PlanData)
    → IsChip chip → IsApp app → groups ≡ groups_of app → IsPlanOf chip app groups plan
    → IsAccepted chip app groups plan → IsDesign chip app plan
design_of chip app groups plan is_chip is_app of_app is_plan is_accepted = record {
  chip_is = is_chip;
  app_is = is_app;
  plan_is = subst (λ (g : GroupsData). IsPlanOf chip app g plan) of_app is_plan;
  accepted = subst (λ (g : GroupsData). IsAccepted chip app g plan) of_app is_accepted;
}
