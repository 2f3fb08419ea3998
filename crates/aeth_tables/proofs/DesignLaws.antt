-- What holds of the tables by a plan that is accepted with the groups of its application.
use Rattle.std.proofs.Common.{◌≡◌, ◌∙◌, ◌<◌, ℕ, All, List, length, sym, ap, subst}
use Rattle.aeth_base.specs.declared.ids.UseId.{UseId}
use Rattle.aeth_chip.specs.Chip.{ChipData, IsChip}
use Rattle.aeth_app.specs.App.{AppData, IsApp}
use Rattle.aeth_group.specs.Members.{GroupsData, groups_of}
use Rattle.aeth_plan.specs.{Plan.IsPlanOf, Plan.PlanData, Design.IsDesign, Accepted.IsAccepted}
use Rattle.aeth_plan.proofs.DesignLaws.{design_of}
use Rattle.aeth_tables.specs.{Granted.granted_in, Reserved.IsReserved, TableText.IsPrintable}
use Rattle.aeth_tables.specs.{Tables.TablesData, Tables.tables_of}
use Rattle.aeth_tables.specs.{declared.granted.GrantedConnection.GrantedConnection}
use Rattle.aeth_tables.proofs.{ListLaws.all_from_places, ListLaws.has_place}
use Rattle.aeth_tables.proofs.{PromiseLaws.are_printable, UseLaws.is_reserved}

module _ (chip : ChipData) (app : AppData) (groups : GroupsData) (plan : PlanData)
    (is_chip : IsChip chip) (is_app : IsApp app) (of_app : groups ≡ groups_of app)
    (is_plan : IsPlanOf chip app groups plan) (is_accepted : IsAccepted chip app groups plan) where
  is_design : IsDesign chip app plan
  is_design = design_of chip app groups plan is_chip is_app of_app is_plan is_accepted

  -- The connections of a use case have the seats and grants that they must.
  pub all_reserved : (u : ℕ) → u < length app.uses → (ones : List GrantedConnection)
      → ones ≡ granted_in app groups plan u → All (IsReserved chip app) ones
  all_reserved u within ones are =
      let all = granted_in app (groups_of app) plan u in
      let same : ones ≡ all = are ∙ ap (λ (g : GroupsData). granted_in app g plan u) of_app in
      subst (λ (list : List GrantedConnection). All (IsReserved chip app) list) (sym same)
      (all_from_places (IsReserved chip app) all (λ place one at.
      is_reserved chip app plan is_design u within one (has_place all place one at)))

  -- The tables of a use case can be printed.
  pub are_to_print : (u : UseId) → u.0 < length app.uses → (tables : TablesData)
      → tables ≡ tables_of chip app groups plan u → IsPrintable chip app tables
  are_to_print u within tables are =
      subst (λ (t : TablesData). IsPrintable chip app t)
      (sym (are ∙ ap (λ (g : GroupsData). tables_of chip app g plan u) of_app))
      (are_printable chip app plan is_design u within)
