-- The connections of a use case, each with the seats of its cores and the grants of its two sides.
--
--   line_of, unit_in, grant_of      the seats of cores, and the grants of units
--   Granted, granted_of, granted_in      a connection with seats and grants, and those of a use case
--   sending_seat, receiving_seat, grant_on      the two sides of such a connection
--   channels_of      the channels of a use case
-- Connections with a channel each way: after Æthereal (2005). Seats: this project's own.
use Rattle.std.proofs.Common.{ℕ, ◌==◌, List, Option, Some, None, filter, find, flat_map, slice_get}
use Rattle.std.specs.{Option.option_and_then, List.filter_map, List.range_with_len}
use Rattle.aeth_base.specs.declared.ids.{Channel.Channel, CoreId.CoreId, Side.Side}
use Rattle.aeth_base.specs.declared.ids.{Side.TheVariants.Fwd, Side.TheVariants.Back}
use Rattle.aeth_base.specs.declared.ids.{Unit.Unit as GroupUnit}
use Rattle.aeth_app.specs.{App.AppData, declared.connection.Connection.Connection}
use Rattle.aeth_group.specs.Members.{GroupsData, group_at, has_at}
use Rattle.aeth_group.specs.declared.grant.{Grant.Grant, SeatLine.SeatLine}
use Rattle.aeth_plan.specs.{Plan.PlanData, UnitGrants.is_for}
use Rattle.aeth_tables.specs.declared.granted.GrantedConnection.{GrantedConnection}
pub use Rattle.aeth_base.specs.Sides.{channels_with, other_side}

-- The line that seats a core, if one does.
abbrev pub line_of : List SeatLine → CoreId → Option SeatLine
line_of seats core = find (λ line. line.core.0 == core.0) seats

-- The unit of a connection in a group.
abbrev pub unit_in : ℕ → ℕ → GroupUnit
unit_in group conn = record { conn = record { 0 = conn }; group = record { 0 = group } }

-- The grant for a side of a unit, if it has one.
abbrev pub grant_of : List Grant → Side → GroupUnit → Option Grant
grant_of grants side unit = find (is_for unit side) grants

-- A connection with its seats and grants.
abbrev pub Granted : Type 0
Granted = GrantedConnection

-- It, where the connection has all of them.
abbrev pub granted_with : ℕ → Connection → Option SeatLine → Option SeatLine → Option Grant
    → Option Grant → Option GrantedConnection
granted_with conn connection (Some from) (Some to) (Some fwd) (Some back) = Some (record {
  conn = record { 0 = conn };
  connection = connection;
  from = from;
  to = to;
  fwd = fwd;
  back = back;
})
granted_with conn connection _ _ _ _ = None

-- The connection of this number with its seats in a plan and its grants in a group.
abbrev pub granted_of : AppData → PlanData → ℕ → ℕ → Option GrantedConnection
granted_of app plan group conn = option_and_then
    (λ connection. granted_with conn connection
    (line_of plan.seats connection.from) (line_of plan.seats connection.to)
    (grant_of plan.grants Fwd (unit_in group conn)) (grant_of plan.grants Back (unit_in group conn)))
    (slice_get app.connections conn)

-- The connections of a use case, in file order, with their seats in a plan and their grants in the
-- group of the use case.
unfoldable pub granted_in : AppData → GroupsData → PlanData → ℕ → List GrantedConnection
granted_in app groups plan u = filter_map (granted_of app plan (group_at groups u))
    (filter (has_at groups u) (range_with_len 0 groups.connections))

-- ---- The two sides

-- The seat of the core that sends on a side.
abbrev pub sending_seat : GrantedConnection → Side → SeatLine
sending_seat granted Fwd = granted.from
sending_seat granted Back = granted.to

-- The seat of the core that receives on a side.
abbrev pub receiving_seat : GrantedConnection → Side → SeatLine
receiving_seat granted Fwd = granted.to
receiving_seat granted Back = granted.from

-- The grant for a side.
abbrev pub grant_on : GrantedConnection → Side → Grant
grant_on granted Fwd = granted.fwd
grant_on granted Back = granted.back

-- The channels of a use case: both of each connection that it has, in the order of connections.
abbrev pub channels_of : GroupsData → ℕ → List Channel
channels_of groups u =
    flat_map channels_with (filter (has_at groups u) (range_with_len 0 groups.connections))
