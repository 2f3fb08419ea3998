-- The grants of an accepted plan can be addressed, and placed on the links.
use Rattle.std.proofs.Common.{◌<◌, length, All}
use Rattle.std.proofs.lemmas.List.Elements.{All-from_recursion}
use Rattle.aeth_base.{specs.declared.ids.LinkId.LinkId, proofs.Members.Contains-slice_get}
use Rattle.aeth_chip.specs.Chip.{ChipData}
use Rattle.aeth_app.specs.App.{AppData}
use Rattle.aeth_group.specs.Members.{groups_of}
use Rattle.aeth_plan.specs.{Plan.IsGrantOf, Plan.PlanData, Design.IsDesign}
use Rattle.aeth_tables.proofs.{ListLaws.all_from_places, ListLaws.all_has_by, PortLaws.all_sent}
use Rattle.aeth_tables.proofs.{SentLinks.sent_along}
use Rattle.aeth_audit.specs.{Places.IsPlaced, Tables.IsAddressable}

module _ (chip : ChipData) (app : AppData) (plan : PlanData)
    (design : IsDesign chip app plan) where
  -- Routers send along their paths, and their connections are there.
  pub addressable : All (IsAddressable chip app) plan.grants
  addressable = all_from_places (IsAddressable chip app) plan.grants (λ k grant at.
      let has = Contains-slice_get plan.grants k grant at in
      let path = design.accepted.paths grant has in
      let is = all_has_by (IsGrantOf chip app (groups_of app)) plan.grants grant
      design.plan_is.grants has in
      record {
        sent = all_sent chip grant.path (sent_along chip.links app.detour path.from path.to
            grant.path path.admissible);
        conn = is.conn;
      })

  -- Their links are the chip's and few, and their slots of its table.
  pub placed : All (IsPlaced chip) plan.grants
  placed = all_from_places (IsPlaced chip) plan.grants (λ k grant at.
      let has = Contains-slice_get plan.grants k grant at in
      let is = all_has_by (IsGrantOf chip app (groups_of app)) plan.grants grant
      design.plan_is.grants has in
      record {
        few = is.few_links;
        links = All-from_recursion (λ (link : LinkId). link.0 < length chip.links) grant.path
            is.links;
        size = is.size;
        starts = is.starts;
      })
