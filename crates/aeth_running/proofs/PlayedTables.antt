-- The tables of routers in a network behind some cycles are those of the rows in force, and the rows of a
-- routing can enter them.
use Rattle.std.proofs.Common.{◌≡◌, ◌<◌, ◌∙◌, ◌+◌, ℕ, zero, suc, All, IsTrue, List, [], Some, ap}
use Rattle.std.proofs.Common.{arith, fold, length, map, refl, subst, sym, true}
use Rattle.std.proofs.lemmas.List.Elements.{All-nil, All-weaker}
use Rattle.std.specs.List.Sorted.{IsNonDecreasingBy}
use Rattle.aeth_chip.specs.Chip.{ChipData}
use Rattle.aeth_router.proofs.RowLemmas.{with_table-kept}
use Rattle.aeth_router.specs.Router.{is_among}
use Rattle.aeth_router.specs.Rows.{AreRowsFor, IsRowFor, is_for, with_table}
use Rattle.aeth_router.specs.TableRouter.{TableRouterState, new_table_router}
use Rattle.aeth_router.specs.declared.part.Part.{Part}
use Rattle.aeth_router.specs.declared.part.Part.TheVariants.{Interface, Router, Stage, TableRouter}
use Rattle.aeth_router.specs.declared.router_row.RouterRow.{RouterRow}
use Rattle.aeth_tables.proofs.ListLaws.{all_from_places}
use Rattle.aeth_components.specs.{Changes.switched, Entering.TakesRows, Wirings.wiring_of}
use Rattle.aeth_components.specs.{Making.new_parts, declared.event.Event.Event}
use Rattle.aeth_components.specs.{declared.making.RouterKind.RouterKind}
use Rattle.aeth_components.specs.{declared.making.RouterKind.TheVariants.ByHeader}
use Rattle.aeth_accepted.specs.Inputs.{Inputs}
use Rattle.aeth_stimuli.specs.Events.{events_in}
use Rattle.aeth_refinement.proofs.Routed.{wirings-but_tables}
use Rattle.aeth_schedule.specs.{Rooms.rooms_of, Switching.loaded_of}
use Rattle.aeth_running.proofs.KeptChannelStates.{cycle-behind}
use Rattle.aeth_running.proofs.Played.{played-routing, played-time}
use Rattle.aeth_running.proofs.RouterTables.{HaveTables, IsTableOf, but-first, tables-behind}
use Rattle.aeth_running.proofs.RouterTables.{tables-first, tables-ready}
use Rattle.aeth_running.specs.Network.{NetworkState, first_network, played, ready_in, state_behind}
use Rattle.aeth_running.specs.Network.{stepped}
use Rattle.aeth_running.specs.Routing.{AreRowsOn, ByHeaders, ByTables, Entering, IsRoutingFor}
use Rattle.aeth_running.specs.Routing.{Routing, entered_first, entered_with, enterings_in}
use Rattle.aeth_running.specs.Routing.{first_rows, kind_of, later_rows, rows_at, rows_before}

-- The rows of a routing are in range, and come in order.
pub first-fit : (inputs : Inputs) (routing : Routing) → IsRoutingFor inputs routing
    → AreRowsOn inputs.chip (first_rows routing)
first-fit inputs ByHeaders routes = λ r. All-nil _
first-fit inputs (ByTables first later) routes = (routes refl).first

pub later-fit : (inputs : Inputs) (routing : Routing) → IsRoutingFor inputs routing
    → All (λ entering. AreRowsOn inputs.chip entering.rows) (later_rows routing)
later-fit inputs ByHeaders routes = All-nil (λ entering. AreRowsOn inputs.chip entering.rows)
later-fit inputs (ByTables first later) routes = (routes refl).later

pub later-order : (inputs : Inputs) (routing : Routing) → IsRoutingFor inputs routing
    → IsNonDecreasingBy (λ entering. entering.cycle) (later_rows routing)
later-order inputs ByHeaders routes = λ i j d le within. absurd (omega arith)
later-order inputs (ByTables first later) routes = (routes refl).order

module _ (inputs : Inputs) (routing : Routing) (routes : IsRoutingFor inputs routing) where
  -- Once a network is ready for a cycle its routers have the rows in force, so they do behind it.
  tables-next : (t : ℕ) (all : NetworkState) → all.routing ≡ routing → all.time ≡ t
      → HaveTables inputs.chip (kind_of routing) (rows_before routing t) all.components.parts
      → HaveTables inputs.chip (kind_of routing) (rows_at routing t) (stepped all).components.parts
  unfolding stepped
  tables-next t all routing_is time_is tables =
      let events = events_in all.stimuli all.time in
      let rows = rows_at routing t in
      tables-behind inputs.chip (kind_of routing) rows events all.time (ready_in all)
      (state_behind events all.time (ready_in all)) (cycle-behind events all.time (ready_in all))
      (subst (λ (one : List Entering). HaveTables inputs.chip (kind_of routing) rows
      (fold entered_with all.components.parts one))
      (λ i. enterings_in (sym routing_is i) (sym time_is i))
      (tables-ready inputs routing routes t all.components.parts tables))

  -- So before each cycle they have those of the one before.
  pub played-tables : (t : ℕ) → HaveTables inputs.chip (kind_of routing) (rows_before routing t)
      (played t (first_network inputs routing)).components.parts
  unfolding played first_network
  played-tables zero = tables-first inputs.chip routing (rooms_of inputs) (loaded_of inputs)
  played-tables (suc t) =
      let all = played t (first_network inputs routing) in
      let next : t + 1 ≡ suc t = omega arith in
      subst (λ n. HaveTables inputs.chip (kind_of routing) (rows_before routing n)
      (stepped all).components.parts) next
      (tables-next t all (played-routing inputs routing t) (played-time inputs routing t)
      (played-tables t))

module _ (chip : ChipData) (rows : List RouterRow) (fits : AreRowsOn chip rows) where
  -- Rows in range are so for each router with a table.
  table-takes : (kind : RouterKind) (others : List RouterRow) (router : TableRouterState)
      → IsTableOf chip kind others router → AreRowsFor rows router
  table-takes kind others router table =
      let new = new_table_router (record { 0 = table.number }) chip in
      let same : record router { held = [] }
      ≡ record new { entries = (with_table others new).entries; held = [] } =
      table.is ∙ ap (λ (one : TableRouterState). record one { held = [] })
      (with_table-kept others new) in
      All-weaker (λ row. is_for new.number row ≡ true → IsRowFor new row)
      (λ row. is_for router.number row ≡ true → IsRowFor router row)
      (λ row fit own.
      let is = fit (ap (λ (one : TableRouterState). is_for one.number row) (sym same) ∙ own) in
      record {
        port = subst (λ (one : TableRouterState). row.port < length one.outgoing) (sym same) is.port;
        slot = subst (λ (one : TableRouterState). row.slot < one.slots) (sym same) is.slot;
        from = subst (λ (one : TableRouterState). IsTrue (is_among one.links row.from.0)) (sym same)
            is.from;
      }) rows (fits table.number)

  part-takes : (part : Part)
      → ((router : TableRouterState) → part ≡ TableRouter router → AreRowsFor rows router)
      → TakesRows rows part
  part-takes (Interface ni) takes = tt
  part-takes (Router router) takes = tt
  part-takes (TableRouter router) takes = takes router refl
  part-takes (Stage stage) takes = tt

  -- So they can enter the tables of components.
  pub tables-take : (kind : RouterKind) (others : List RouterRow) (parts : List Part)
      → HaveTables chip kind others parts → All (TakesRows rows) parts
  tables-take kind others parts tables =
      all_from_places (TakesRows rows) parts (λ i part at.
      part-takes part (λ router is.
      table-takes kind others router (tables i router (at ∙ ap (λ (one : Part). Some one) is))))

-- The components before the first cycle have the wirings of those that read headers.
pub wirings-first : (routing : Routing) (chip : ChipData) (rooms : List ℕ) (events : List Event)
    → map wiring_of
    (entered_first routing (switched events (new_parts chip (kind_of routing) rooms)))
    ≡ map wiring_of (switched events (new_parts chip ByHeader rooms))
wirings-first routing chip rooms events =
    wirings-but_tables
    (entered_first routing (switched events (new_parts chip (kind_of routing) rooms)))
    (switched events (new_parts chip ByHeader rooms)) (but-first routing chip rooms events)
