-- What is made once of a plan, and what rows are judged with.
--
--   seat_number, address_of      how the flits of a grant are addressed
--   IsAddressable      a grant of a chip and an application
--   IsTable      what is made of a plan
-- This project's own.
use Rattle.std.proofs.Common.{◌≡◌, ◌<◌, ◌+◌, ◌*◌, ℕ, All, List, drop, length, map}
use Rattle.std.specs.{List.slice_index_or, Option.option_map_or}
use Rattle.aeth_base.specs.declared.ids.CoreId.{CoreId}
use Rattle.aeth_chip.specs.Chip.{ChipData}
use Rattle.aeth_app.specs.{App.AppData, App.position_of, Connections.receiver}
use Rattle.aeth_app.specs.{Limits.max_core_connections}
use Rattle.aeth_group.specs.declared.grant.{Grant.Grant, SeatLine.SeatLine}
use Rattle.aeth_plan.specs.Plan.{PlanData}
use Rattle.aeth_report.specs.Design.{no_connection}
use Rattle.aeth_tables.specs.{Granted.line_of, Routes.IsSent, Routes.route_along}
use Rattle.aeth_audit.specs.Places.{ArePlaces}
use Rattle.aeth_audit.specs.declared.table.{Address.Address, Table.Table}

-- The number of the seat of a core; 0 where no line seats it.
abbrev pub seat_number : List SeatLine → CoreId → ℕ
seat_number seats core =
    option_map_or (λ line. line.seat) (line_of seats core) 0

-- The route of a grant, and the queue at which its channel lands.
abbrev pub address_of : ChipData → AppData → List SeatLine → Grant → Address
address_of chip app seats grant =
    let connection = slice_index_or app.connections grant.unit.conn.0 no_connection in
    let core = receiver connection grant.side in
    record {
      route = route_along chip.links grant.path;
      queue = max_core_connections * seat_number seats core
          + position_of app.connections core grant.unit.conn.0;
    }

-- Routers send on the links of a grant's path behind the first, and its connection is one of the
-- application's.
pub record IsAddressable (chip : ChipData) (app : AppData) (grant : Grant) : Type 0 where
  pub sent : All (IsSent chip.links) (drop 1 grant.path)
  pub conn : grant.unit.conn.0 < length app.connections

-- The table of a plan: for each grant its address, and for each link and slot the places at which
-- flits enter the link in the slot.
pub record IsTable (chip : ChipData) (app : AppData) (plan : PlanData) (table : Table)
    : Type 0 where
  pub addresses : table.addresses.items ≡ map (address_of chip app plan.seats) plan.grants
  pub slots : table.places.slots ≡ chip.slots
  pub size : length table.places.cells.items ≡ length chip.links * chip.slots
  pub places : ArePlaces chip plan.grants table.places.cells.items
