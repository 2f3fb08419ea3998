-- Routers whose tables have the rows in force are routed as routed sessions ask.
use Rattle.std.proofs.Common.{◌≡◌, ◌<◌, ◌∙◌, ◌+◌, ◌*◌, ◌%◌, ℕ, All, true, List, [], ◌∷◌, None}
use Rattle.std.proofs.Common.{Option, Some, ap, arith, filter, fold, get_or, inl, inr, length, map}
use Rattle.std.proofs.Common.{refl, slice_get, sym, ◌==◌, ◌&&◌, if◌then◌else◌, nat_lt}
use Rattle.std.proofs.Common.{option_and_then, option_map, position, eqb-true}
use Rattle.std.proofs.Math.Nat.{mod-lt}
use Rattle.std.proofs.lemmas.Bool.{and_parts, cases_Bool}
use Rattle.std.proofs.lemmas.List.{length-replicate, Sums.count_by-le-length, Elements.All-filter}
use Rattle.std.proofs.lemmas.List.{Elements.All-head, Elements.All-tail, Quantifiers.position-Some}
use Rattle.std.proofs.lemmas.Option.{same_Some, slice_get-get_or, slice_get-map}
use Rattle.aeth_base.specs.declared.ids.LinkId.{LinkId}
use Rattle.aeth_chip.specs.Chip.{ChipData, IsChip}
use Rattle.aeth_chip.specs.Nodes.{begins_at, ends_at, receives_on, sends_on}
use Rattle.aeth_chip.specs.declared.node.Node.{Node, TheVariants.Router}
use Rattle.aeth_chip.proofs.NodeLemmas.{length-numbers_from, numbers_from-once, same_node-true}
use Rattle.aeth_chip.proofs.WireLemmas.{have_delays}
use Rattle.aeth_router.proofs.LinkLemmas.{AreDistinctLinks-numbers_from, is_among-at}
use Rattle.aeth_router.proofs.LinkLemmas.{passes-from_is_among, among-place, position-at}
use Rattle.aeth_router.proofs.RowLemmas.{entry-with_table, with_table-kept}
use Rattle.aeth_router.specs.Router.{is_among, last_wire}
use Rattle.aeth_router.specs.Rows.{AreRowsFor, IsRowFor, is_at, is_for, link_in, with_table}
use Rattle.aeth_router.specs.TableRouter.{IsTableRouter, TableRouterState, new_table_router}
use Rattle.aeth_router.specs.TableRouter.{place_from}
use Rattle.aeth_router.specs.declared.{part.Part.Part, router_row.RouterRow.RouterRow}
use Rattle.aeth_clocked.specs.declared.flit.Flit.{Flit}
use Rattle.aeth_report.specs.Routes.{port_of}
use Rattle.aeth_invariant.specs.RoutedSessions.{AtRouter}
use Rattle.aeth_accepted.specs.Inputs.{Inputs}
use Rattle.aeth_routed_sessions.specs.RoutedSessions.{routed_sessions_of}
use Rattle.aeth_routed_sessions.specs.Wiring.{node_end, start_of}
use Rattle.aeth_routed_sessions.proofs.{WiredLemmas.port_at, WireEnds.first-starts}
use Rattle.aeth_refinement.specs.Routed.{AreRoutedBy, IsRoutedBy, table_from}
use Rattle.aeth_running.proofs.RouterTables.{HaveTables, IsTableOf}
use Rattle.aeth_running.specs.Routing.{AreRowsOn, Entering, IsRoutingFor, Routing, first_rows}
use Rattle.aeth_running.specs.Routing.{kind_of, later_rows, rows_at}
use Rattle.aeth_rtable.specs.Sending.{from_at, from_rows}

-- Rows in range have links that enter the router.
link-enters : (router : TableRouterState) (port slot : ℕ) (rows : List RouterRow)
    (found : Option LinkId) → AreRowsFor rows router
    → ((link : LinkId) → found ≡ Some link → is_among router.links link.0 ≡ true)
    → (link : LinkId) → fold (λ (found : Option LinkId) (row : RouterRow).
    if is_at router.number port slot row then Some row.from else found) found rows ≡ Some link
    → is_among router.links link.0 ≡ true
link-enters router port slot [] found fits before link is = before link is
link-enters router port slot (row ∷ rows) found fits before link is =
    let suits = λ (one : RouterRow). is_for router.number one ≡ true → IsRowFor router one in
    link-enters router port slot rows
    (if is_at router.number port slot row then Some row.from else found)
    (All-tail suits row rows fits)
    (λ one same. elim (cases_Bool (is_at router.number port slot row)) [
      | inl here ↦
          let own = and_parts (is_for router.number row) (row.port == port && row.slot == slot) here in
          let from : row.from ≡ one = same_Some row.from one (rw here at same) in
          ap (λ (other : LinkId). is_among router.links other.0) (sym from)
          ∙ (All-head suits row rows fits own.0).from
      | inr other ↦ before one (rw other at same)
    ])
    link is

module _ (chip : ChipData) (is_chip : IsChip chip) (r : ℕ) where
  abbrev node : Node
  node = Router (record { 0 = r })

  -- A wire on which a router sends starts there, at its port.
  record Sends (l port : ℕ) : Type 0 where
    start : start_of chip.links l ≡ AtRouter r
    port_is : port_of chip.links (record { 0 = l }) ≡ port

  sends : (l port : ℕ) → position (λ other. other == l) (sends_on node chip.links) ≡ Some port
      → Sends l port
  sends l port at =
      let ports = sends_on node chip.links in
      let found = position-Some (λ other. other == l) ports port 0 at in
      let place : slice_get ports port ≡ Some l =
      slice_get-get_or ports port 0 found.0
      ∙ ap (λ (n : ℕ). Some n) (eqb-true (get_or ports port 0) l found.1) in
      let passes = passes-from_is_among (begins_at node) chip.links l
      (is_among-at ports port l place) in
      let from = same_node-true passes.0.from node passes.2 in
      record {
        start = first-starts chip.links (have_delays chip is_chip) l passes.0 passes.1
            ∙ ap node_end from;
        port_is = numbers_from-once (begins_at node) 0 chip.links
            (port_of chip.links (record { 0 = l })) port l
            (port_at chip.links l passes.0 (record { 0 = r }) passes.1 from) place;
      }

  -- The last wire of a link that enters it is at the link's place.
  wire-at : (link : LinkId) → is_among (receives_on node chip.links) link.0 ≡ true
      → option_and_then (λ place. slice_get (map (last_wire chip.links)
      (receives_on node chip.links)) place)
      (place_from (receives_on node chip.links) (Some link))
      ≡ Some (last_wire chip.links link.0)
  wire-at link among =
      let links = receives_on node chip.links in
      let at = among-place links link.0 among in
      ap (option_and_then (λ place. slice_get (map (last_wire chip.links) links) place))
      (position-at links at.0 link.0 (AreDistinctLinks-numbers_from 0 (ends_at node) chip.links)
      at.1)
      ∙ slice_get-map (last_wire chip.links) links at.0
      ∙ ap (option_map (last_wire chip.links)) at.1

  module _ (rows : List RouterRow) (fits : AreRowsFor rows (new_table_router (record { 0 = r }) chip))
      (t : ℕ) where
    abbrev router : TableRouterState
    router = new_table_router (record { 0 = r }) chip

    abbrev slot : ℕ
    slot = t % chip.slots

    -- The wire of an entry is the last one of the rows' link.
    wire-of : (port : ℕ) (found : Option LinkId)
        → ((link : LinkId) → found ≡ Some link
        → is_among (receives_on node chip.links) link.0 ≡ true)
        → option_map (λ link. last_wire chip.links link.0) found
        ≡ option_and_then (λ place. slice_get (map (last_wire chip.links)
        (receives_on node chip.links)) place) (place_from (receives_on node chip.links) found)
    wire-of port None among = refl
    wire-of port (Some link) among = sym (wire-at link (among link refl))

    -- The router is one with a table.
    is-router : IsTableRouter (new_table_router (record { 0 = r }) chip)
    is-router =
        let none : Option ℕ = None in
        let empty : Option Flit = None in
        let some = is_chip.some_slots in
        let links = is_chip.few_links in
        let count = length-numbers_from (ends_at node) 0 chip.links in
        let few = count_by-le-length (ends_at node) chip.links in
        record {
          some_slots = some;
          few = omega (arith, links, count, few);
          places = length-replicate (length router.incoming) empty;
          apart = AreDistinctLinks-numbers_from 0 (begins_at node) chip.links;
          entries = length-replicate (length router.outgoing * chip.slots) none;
        }

    -- So rows send a wire on from where the table with them does.
    from-table : (l port : ℕ)
        → position (λ other. other == l) (sends_on node chip.links) ≡ Some port
        → from_rows chip rows t l
        ≡ table_from (record router { entries = (with_table rows router).entries }) t port
    from-table l port at =
        let own = sends l port at in
        let found = link_in rows (record { 0 = r }) port slot in
        let some = is_chip.some_slots in
        let some_slots : 0 < chip.slots = omega (arith, some) in
        let is_port = (position-Some (λ other. other == l) (sends_on node chip.links) port 0 at).0 in
        ap (from_at chip rows t l) own.start
        ∙ ap (λ (n : ℕ). option_map (λ link. last_wire chip.links link.0)
        (link_in rows (record { 0 = r }) n slot)) own.port_is
        ∙ wire-of port found (link-enters router port slot rows None fits (λ link is. absurd (cc is)))
        ∙ ap (option_and_then (λ place. slice_get router.incoming place))
        (sym (entry-with_table router port slot is_port (mod-lt t some_slots) rows is-router fits))

-- The rows in force are in range.
abbrev fit_with : List RouterRow → Entering → List RouterRow
fit_with rows entering = entering.rows

fit-all : (chip : ChipData) (rows : List RouterRow) (enterings : List Entering)
    → AreRowsOn chip rows → All (λ entering. AreRowsOn chip entering.rows) enterings
    → AreRowsOn chip (fold fit_with rows enterings)
fit-all chip rows [] fit all = fit
fit-all chip rows (entering ∷ enterings) fit all =
    let fits = λ (one : Entering). AreRowsOn chip one.rows in
    fit-all chip entering.rows enterings (All-head fits entering enterings all)
    (All-tail fits entering enterings all)

module _ (inputs : Inputs) (routing : Routing) (routes : IsRoutingFor inputs routing)
    (is_chip : IsChip inputs.chip) (t : ℕ) (early : t < inputs.cycles) where
  -- A router with the rows in force.
  table-routed : (router : TableRouterState)
      → IsTableOf inputs.chip (kind_of routing) (rows_at routing t) router
      → IsRoutedBy (routed_sessions_of inputs) t router
  table-routed router table =
      let tables = routes table.kind_is in
      let rows = rows_at routing t in
      let new = new_table_router (record { 0 = table.number }) inputs.chip in
      let fits = fit-all inputs.chip (first_rows routing)
      (filter (λ entering. nat_lt entering.cycle (t + 1)) (later_rows routing)) tables.first
      (All-filter (λ entering. nat_lt entering.cycle (t + 1))
      (λ entering. AreRowsOn inputs.chip entering.rows) (later_rows routing) tables.later) in
      let some = is_chip.some_slots in
      let is : record router { held = [] }
      ≡ record new { entries = (with_table rows new).entries; held = [] } =
      table.is ∙ ap (λ (one : TableRouterState). record one { held = [] }) (with_table-kept rows new) in
      record {
        some_slots = omega (arith, some);
        from = from_rows inputs.chip rows t;
        entries = tables.entries t early;
        own = λ l port at.
            from-table inputs.chip is_chip table.number rows (fits table.number) t l port
            (ap (λ (one : TableRouterState). position (λ other. other == l) one.outgoing) (sym is)
            ∙ at)
            ∙ ap (λ (one : TableRouterState). table_from one t port) (sym is);
      }

  pub tables-routed : (parts : List Part)
      → HaveTables inputs.chip (kind_of routing) (rows_at routing t) parts
      → AreRoutedBy (routed_sessions_of inputs) t parts
  tables-routed parts tables i router at = table-routed router (tables i router at)
