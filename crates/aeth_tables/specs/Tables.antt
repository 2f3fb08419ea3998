-- The tables of the network interfaces in a use case: for each channel its row, and what it is
-- granted and asks for.
--
--   queue_at      the queue number of a connection at a seat
--   shape_on, row_on      of a channel
--   rows_on, shapes_on      of the two channels of a connection
--   TablesData, tables_with, tables_of      of all channels of a use case
-- Slot tables in network interfaces: after Æthereal (2005). Queue numbers and buffers: this
-- project's own.
use Rattle.std.proofs.Common.{ℕ, List, [], ◌∷◌, flat_map}
use Rattle.aeth_base.specs.declared.ids.{ConnId.ConnId, Side.Side, Side.TheVariants.Fwd}
use Rattle.aeth_base.specs.declared.ids.{Side.TheVariants.Back, UseId.UseId}
use Rattle.aeth_server.specs.{ChannelShape.shape_of, Shape.buffer_of}
use Rattle.aeth_server.specs.{declared.shape.ChannelShape.ChannelShape}
use Rattle.aeth_chip.specs.{Chip.ChipData, Paths.path_delay}
use Rattle.aeth_app.specs.{App.AppData, App.position_of, App.wish_of, Rates.need_of}
use Rattle.aeth_seats.specs.Seats.{queue_of}
use Rattle.aeth_group.specs.{Members.GroupsData, declared.grant.SeatLine.SeatLine}
use Rattle.aeth_plan.specs.Plan.{PlanData}
use Rattle.aeth_ni.specs.declared.row.ChannelRow.{ChannelRow}
use Rattle.aeth_tables.specs.{Granted.grant_on, Granted.granted_in, Granted.other_side}
use Rattle.aeth_tables.specs.{Granted.receiving_seat, Granted.sending_seat, Routes.route_along}
use Rattle.aeth_tables.specs.{declared.granted.GrantedConnection.GrantedConnection}

-- The queue number of a connection at the seat of one of its cores.
abbrev pub queue_at : AppData → ConnId → SeatLine → ℕ
queue_at app conn line = queue_of line.seat (position_of app.connections line.core conn.0)

-- What the channel of a side is granted and asks for.
abbrev pub shape_on : ChipData → AppData → GrantedConnection → Side → ChannelShape
shape_on chip app granted side = record {
  slots = (grant_on granted side).slots;
  links = path_delay chip.links (grant_on granted side).path;
  delay = (wish_of granted.connection side).delay;
  need = need_of app.slots granted.connection side;
  back = (grant_on granted (other_side side)).slots;
  back_links = path_delay chip.links (grant_on granted (other_side side)).path;
}

-- The row of the channel of a side, at its sending interface.
abbrev pub row_on : ChipData → AppData → GrantedConnection → Side → ChannelRow
row_on chip app granted side = record {
  channel = record { conn = granted.conn; side = side };
  ni = (sending_seat granted side).ni;
  queue = queue_at app granted.conn (sending_seat granted side);
  slots = (grant_on granted side).slots;
  route = route_along chip.links (grant_on granted side).path;
  remote = queue_at app granted.conn (receiving_seat granted side);
  credits = buffer_of (shape_of (shape_on chip app granted side));
}

-- The rows of a connection's two channels, in their order.
abbrev pub rows_on : ChipData → AppData → GrantedConnection → List ChannelRow
rows_on chip app granted = row_on chip app granted Fwd ∷ row_on chip app granted Back ∷ []

-- The shapes of a connection's two channels, in their order.
abbrev pub shapes_on : ChipData → AppData → GrantedConnection → List ChannelShape
shapes_on chip app granted = shape_on chip app granted Fwd ∷ shape_on chip app granted Back ∷ []

-- The tables of a use case: a row for each of its channels, in channel order, and beside each row
-- the shape of its channel.
pub record TablesData : Type 0 where
  pub uses : UseId
  pub rows : List ChannelRow
  pub shapes : List ChannelShape

-- The tables of a use case that has these connections.
abbrev pub tables_with : ChipData → AppData → UseId → List GrantedConnection → TablesData
tables_with chip app u connections = record {
  uses = u;
  rows = flat_map (rows_on chip app) connections;
  shapes = flat_map (shapes_on chip app) connections;
}

-- The tables of a use case by a plan.
unfoldable pub tables_of : ChipData → AppData → GroupsData → PlanData → UseId → TablesData
tables_of chip app groups plan u = tables_with chip app u (granted_in app groups plan u.0)
