-- Each row of a use case by an accepted plan is within the table of its router, and its link enters
-- the router.
use Rattle.std.proofs.Common.{◌≡◌, ◌<◌, ◌+◌, ◌∙◌, ℕ, suc, true, List, Some, Contains, get_or}
use Rattle.std.proofs.Common.{length, slice_get, take, sym, ap, subst, arith, count_by, eqb-true}
use Rattle.std.proofs.lemmas.Option.{same_Some, slice_get-get_or}
use Rattle.aeth_base.specs.declared.ids.{LinkId.LinkId, RouterId.RouterId}
use Rattle.aeth_base.proofs.Members.{All-slice_get, Contains-list_any, Contains-slice_get}
use Rattle.aeth_chip.specs.{Chip.ChipData, Nodes.ends_at, Nodes.receives_on, Paths.to_in}
use Rattle.aeth_chip.specs.{Paths.to_of, declared.node.Link.Link, declared.node.Node.TheVariants.Ni}
use Rattle.aeth_chip.specs.{declared.node.Node.TheVariants.Router}
use Rattle.aeth_chip.proofs.JoinedLaws.{joined-next}
use Rattle.aeth_chip.proofs.NodeLemmas.{numbers_from-at, same_node-refl, same_node-true}
use Rattle.aeth_chip.proofs.NodeLemmas.{sends_on-found}
use Rattle.aeth_app.specs.App.{AppData}
use Rattle.aeth_check.{proofs.PlanParts.are_placed, specs.Calls.IsPlaced}
use Rattle.aeth_group.specs.Members.{groups_of}
use Rattle.aeth_plan.specs.{Plan.PlanData, Design.IsDesign}
use Rattle.aeth_router.specs.{Router.is_among, Rows.AreRowsFor, Rows.IsRowFor, Rows.is_for}
use Rattle.aeth_router.specs.{TableRouter.new_table_router, declared.router_row.RouterRow.RouterRow}
use Rattle.aeth_tables.proofs.ListLaws.{all_from_places, all_has}
use Rattle.aeth_rtable.specs.{Hops.hops_in, Rows.router_rows}
use Rattle.aeth_rtable.proofs.{RowLaws.IsRow, RowLaws.is_row, TableLaws.design_tables}

module _ (links : List Link) where
  -- A link that ends at a router is one of those that enter it.
  enters-router : (l : ℕ) (link : Link) (router : RouterId) → slice_get links l ≡ Some link
      → link.to ≡ Router router → is_among (receives_on (Router router) links) l ≡ true
  enters-router l link router at to =
      let test = ends_at (Router router) in
      let start : 0 + l ≡ l = omega arith in
      let listed = numbers_from-at test 0 links l link at (rw to (same_node-refl (Router router))) in
      Contains-list_any (receives_on (Router router) links) l
      (Contains-slice_get (receives_on (Router router) links) (count_by test (take l links)) l
      (listed ∙ ap (λ (n : ℕ). Some n) start))

module _ (chip : ChipData) (app : AppData) (plan : PlanData) (design : IsDesign chip app plan)
    (u : ℕ) where
  row-is : (row : RouterRow) → Contains (router_rows chip (groups_of app) plan u) row
      → IsRow (hops_in chip (groups_of app) plan u) chip row
  unfolding router_rows
  row-is row has = is_row (hops_in chip (groups_of app) plan u) chip row has

  -- A row is within the table of its router.
  row-fits : (row : RouterRow) → Contains (router_rows chip (groups_of app) plan u) row
      → IsRowFor (new_table_router row.router chip) row
  row-fits row has =
      let links = chip.links in
      let is = row-is row has in
      let entry = (design_tables chip app plan design u).entered row has in
      let enters = entry.enters in
      let path = design.accepted.paths entry.grant entry.granted in
      let step : suc enters.place ≡ enters.place + 1 = omega arith in
      let begins = joined-next links (Ni path.from) entry.grant.path enters.place row.from enters.link
      path.admissible.is_path.joins.joined enters.before
      (ap (slice_get entry.grant.path) step ∙ enters.behind) in
      let found = sends_on-found links (Router row.router) row.port enters.link.0 enters.port in
      let same : begins.link ≡ found.link =
      same_Some begins.link found.link (sym begins.is ∙ found.at) in
      let to : to_of links row.from ≡ Router row.router =
      sym begins.begins ∙ ap (λ (k : Link). k.from) same
      ∙ same_node-true found.link.from (Router row.router) found.passes in
      let placed = all_has (IsPlaced chip) plan.grants entry.grant
      (are_placed chip design.chip_is app (groups_of app) plan design.plan_is) entry.granted in
      let below = All-slice_get (λ (l : LinkId). l.0 < length links) entry.grant.path enters.place
      row.from placed.links enters.before in
      let link = get_or links row.from.0 begins.link in
      let at : slice_get links row.from.0 ≡ Some link =
      slice_get-get_or links row.from.0 begins.link below in
      record {
        port = is.port;
        slot = is.slot;
        from = enters-router links row.from.0 link row.router at (sym (ap to_in at) ∙ to);
      }

  -- So the rows of a router are within its table.
  pub rows-fit : (router : RouterId)
      → AreRowsFor (router_rows chip (groups_of app) plan u) (new_table_router router chip)
  rows-fit router =
      let rows = router_rows chip (groups_of app) plan u in
      all_from_places (λ (row : RouterRow). is_for router row ≡ true
      → IsRowFor (new_table_router router chip) row) rows (λ place row at own.
      let number = eqb-true row.router.0 router.0 own in
      subst (λ (n : ℕ). IsRowFor (new_table_router (record { 0 = n }) chip) row) number
      (row-fits row (Contains-slice_get rows place row at)))
