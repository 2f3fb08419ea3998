-- The rows of a use case by an accepted plan are the tables of its routers.
use Rattle.std.proofs.Common.{◌≡◌, ◌<◌, ◌+◌, ◌∙◌, ℕ, List, Some, Contains, length, slice_get, sym}
use Rattle.std.proofs.Common.{ap, subst, arith}
use Rattle.std.proofs.lemmas.Nat.{mod_below}
use Rattle.std.proofs.lemmas.Option.{get_or_from_slice_get, slice_get-get_or, slice_get_within}
use Rattle.aeth_base.specs.declared.ids.LinkId.{LinkId}
use Rattle.aeth_base.proofs.Members.{Contains-filter, Contains-flat_map, filter-Contains}
use Rattle.aeth_base.proofs.Members.{flat_map-Contains}
use Rattle.aeth_chip.specs.{Chip.ChipData, Chip.IsChip, Chip.IsNode, Nodes.sends_on, Paths.offset}
use Rattle.aeth_chip.specs.{declared.node.Node.Node, declared.node.Node.TheVariants.Router}
use Rattle.aeth_chip.proofs.NodeLemmas.{same_node-true, sends_on-found}
use Rattle.aeth_app.specs.App.{AppData}
use Rattle.aeth_group.specs.Members.{GroupsData, groups_of, has_unit}
use Rattle.aeth_group.specs.declared.grant.Grant.{Grant}
use Rattle.aeth_plan.specs.{Plan.IsGrantOf, Plan.IsPlanOf, Plan.PlanData, Accepted.IsAccepted}
use Rattle.aeth_plan.specs.{Design.IsDesign}
use Rattle.aeth_tables.proofs.ListLaws.{all_has_by}
use Rattle.aeth_rtable.specs.{Hops.entry_at, Hops.grants_in, Hops.hops_in, Hops.hops_of}
use Rattle.aeth_rtable.specs.{Rows.router_rows, Rows.rows_by, RouterTables.AreTables}
use Rattle.aeth_rtable.specs.{RouterTables.IsEntered, declared.hops.Hop.Hop}
use Rattle.aeth_rtable.proofs.HopLaws.{IsUsed, entry-from, has_hop, is_hop, one_from, some_entry}
use Rattle.aeth_rtable.proofs.RowLaws.{has_row, is_row, link_of, rows_rise}
use Rattle.aeth_router.specs.declared.router_row.RouterRow.{RouterRow}

module _ (chip : ChipData) (app : AppData) (groups : GroupsData) (plan : PlanData)
    (is_chip : IsChip chip) (of : IsPlanOf chip app groups plan)
    (accepted : IsAccepted chip app groups plan) (u : ℕ) where
  -- The hops of the use case.
  abbrev hops : List Hop
  hops = hops_in chip groups plan u

  -- A hop of the use case, with the grant that it is of.
  used_hop : (hop : Hop) → Contains hops hop
      → (grant : Grant) × IsUsed chip app groups plan accepted u grant hop
  used_hop hop has =
      let (grant, is_in, there) = flat_map-Contains (hops_of chip.links) (grants_in groups plan u) hop
      has in
      let kept = filter-Contains (λ (g : Grant). has_unit groups g.unit u) plan.grants grant is_in in (
        grant,
        record {
          granted = kept.0;
          in_use = kept.1;
          hop_is = is_hop chip.links grant hop there;
        },
      )

  -- And back.
  hop_used : (grant : Grant) (hop : Hop) → IsUsed chip app groups plan accepted u grant hop
      → Contains hops hop
  hop_used grant hop used =
      Contains-flat_map (hops_of chip.links) (grants_in groups plan u) grant hop
      (Contains-filter (λ (g : Grant). has_unit groups g.unit u) plan.grants grant used.granted
      used.in_use) (has_hop chip.links grant hop used.hop_is)

  -- The link of a router's port is the one on which it sends.
  port_link : (row : RouterRow) (link : ℕ)
      → slice_get (sends_on (Router row.router) chip.links) row.port ≡ Some link
      → link_of hops chip row.router row.port ≡ link
  port_link row link at =
      get_or_from_slice_get (sends_on (Router row.router) chip.links) row.port link 0 at

  -- A row is entered by the grant of its hop.
  entered : (row : RouterRow) → Contains (rows_by hops chip) row → IsEntered chip groups plan u row
  entered row has =
      let is = is_row hops chip row has in
      let links = sends_on (Router row.router) chip.links in
      let link = link_of hops chip row.router row.port in
      let from = entry-from hops link row.slot row.from is.entry in
      let (grant, used) = used_hop from.hop from.has in
      let hop_is = used.hop_is in
      record {
        grant = grant;
        granted = used.granted;
        in_use = used.in_use;
        enters = record {
          place = hop_is.place;
          link = from.hop.to;
          start = hop_is.start;
          before = hop_is.before ∙ ap (λ (l : LinkId). Some l) from.from_is;
          behind = hop_is.behind;
          port = slice_get-get_or links row.port 0 is.port
              ∙ ap (λ (n : ℕ). Some n) (sym from.to_is);
          starts = hop_is.starts;
          slot = hop_is.slot ∙ from.slot_is;
        };
      }

  -- The router that sends on a link is one of the chip's.
  router_known : (row : RouterRow) (link : ℕ)
      → slice_get (sends_on (Router row.router) chip.links) row.port ≡ Some link
      → row.router.0 < length chip.routers
  router_known row link at =
      let found = sends_on-found chip.links (Router row.router) row.port link at in
      subst (λ (node : Node). IsNode chip.routers chip.nis node)
      (same_node-true found.link.from (Router row.router) found.passes)
      (is_chip.links link found.link found.at).from

  -- What a grant of the use case enters is a row.
  all_there : (row : RouterRow) → IsEntered chip groups plan u row
      → Contains (rows_by hops chip) row
  all_there row is =
      let enters = is.enters in
      let sends = sends_on (Router row.router) chip.links in
      let hop : Hop = record { from = row.from; to = enters.link; slot = row.slot } in
      let used : IsUsed chip app groups plan accepted u is.grant hop = record {
        granted = is.granted;
        in_use = is.in_use;
        hop_is = record {
          place = enters.place;
          start = enters.start;
          before = enters.before;
          behind = enters.behind;
          starts = enters.starts;
          slot = enters.slot;
        };
      } in
      let (from, entry) = some_entry hops hop (hop_used is.grant hop used) in
      let first = entry-from hops enters.link.0 row.slot from entry in
      let (other, used_first) = used_hop first.hop first.has in
      let one : first.hop.from ≡ row.from = one_from chip app groups plan accepted u other is.grant
      first.hop hop used_first used first.to_is first.slot_is in
      let same : from ≡ row.from = sym first.from_is ∙ one in
      let size = (all_has_by (IsGrantOf chip app groups) plan.grants is.grant of.grants is.granted).size
      in
      let link = port_link row enters.link.0 enters.port in
      has_row hops chip row (record {
        router = router_known row enters.link.0 enters.port;
        port = slice_get_within sends row.port enters.link.0 enters.port;
        slot = let below = mod_below
            (enters.start + offset chip.links is.grant.path (enters.place + 1)) is.grant.slots.size
            (omega (arith, size, is_chip.some_slots)) in
            let at = enters.slot in omega (arith, below, at, size);
        entry = ap (λ (n : ℕ). entry_at hops n row.slot) link ∙ entry
            ∙ ap (λ (l : LinkId). Some l) same;
      })

  -- The rows are the tables of all routers.
  pub are_tables : AreTables chip groups plan u (router_rows chip groups plan u)
  unfolding router_rows
  are_tables = record { entered = entered; all = all_there; ascends = rows_rise hops chip }

-- The same of a design.
pub design_tables : (chip : ChipData) (app : AppData) (plan : PlanData) → IsDesign chip app plan
    → (u : ℕ) → AreTables chip (groups_of app) plan u (router_rows chip (groups_of app) plan u)
design_tables chip app plan design u = are_tables chip app (groups_of app) plan design.chip_is
    design.plan_is design.accepted u
