-- What a chip, an application and a plan give to each channel in a group of use cases: its grant,
-- the queue at which it lands, and its shape.
--
--   Design      what all this is read off
--   connection_at      a connection
--   seat_at, queue_at      where a core is seated, and the queue number of a connection there
--   is_for, no_grant, grant_at      the grant of a channel in a group
--   remote_at, shape_at      the queue at which a channel lands, and its shape in a group
-- Grants and queues: after Æthereal (2005). Seats: after UMARS (2005). Queue numbers: this project's
-- own.
use Rattle.std.proofs.Common.{ℕ, ◌+◌, ◌*◌, ◌==◌, ◌&&◌, Bool, List, [], find, unwrap_or}
use Rattle.std.specs.List.{slice_index_or}
use Rattle.aeth_base.specs.Sides.{same_side}
use Rattle.aeth_base.specs.declared.ids.{Channel.Channel, ConnId.ConnId, CoreId.CoreId}
use Rattle.aeth_base.specs.Limits.{words_per_flit}
use Rattle.aeth_chip.specs.{Chip.ChipData, Paths.path_delay}
use Rattle.aeth_app.specs.{App.AppData, App.position_of, App.wish_of, Limits.max_core_connections}
use Rattle.aeth_app.specs.{Rates.need_of, declared.connection.Connection.Connection}
use Rattle.aeth_app.specs.{declared.connection.Wish.Wish}
use Rattle.aeth_group.specs.Members.{GroupsData}
use Rattle.aeth_group.specs.declared.grant.{Grant.Grant, SeatLine.SeatLine}
use Rattle.aeth_server.specs.Shape.{Shape}
use Rattle.aeth_report.specs.Channels.{opposite, receiver}

-- A chip, an application with its groups, and the seats and the grants of a plan.
pub record Design : Type 0 where
  pub chip : ChipData
  pub app : AppData
  pub groups : GroupsData
  pub seats : List SeatLine
  pub grants : List Grant

-- What stands for the wish of a missing connection.
abbrev pub no_wish : Wish
no_wish = record { words = 0; per = 1; latency = 1; delay = 0 }

-- What stands for a missing connection.
abbrev pub no_connection : Connection
no_connection = record {
  name = [];
  from = record { 0 = 0 };
  to = record { 0 = 0 };
  fwd = no_wish;
  back = no_wish;
}

-- A connection of the application.
abbrev pub connection_at : Design → ConnId → Connection
connection_at design conn = slice_index_or design.app.connections conn.0 no_connection

-- Where a core is seated; on the first seat of interface 0 where no line says it.
abbrev pub seat_at : Design → CoreId → SeatLine
seat_at design core =
    unwrap_or (find (λ line. line.core.0 == core.0) design.seats)
    (record { core = core; ni = record { 0 = 0 }; seat = 0 })

-- The queue number of a connection at a core.
abbrev pub queue_at : Design → CoreId → ConnId → ℕ
queue_at design core conn =
    max_core_connections * (seat_at design core).seat
    + position_of design.app.connections core conn.0

-- Whether a grant is that of a channel in a group.
abbrev pub is_for : Channel → ℕ → Grant → Bool
is_for channel group grant =
    grant.unit.conn.0 == channel.conn.0
    && (grant.unit.group.0 == group && same_side grant.side channel.side)

-- What stands for a missing grant: one without links and slots.
abbrev pub no_grant : ℕ → Channel → ℕ → Grant
no_grant slots channel group = record {
  unit = record { conn = channel.conn; group = record { 0 = group } };
  side = channel.side;
  path = [];
  slots = record { size = slots; slots = [] };
}

-- The grant of a channel in a group.
abbrev pub grant_at : Design → Channel → ℕ → Grant
grant_at design channel group =
    unwrap_or (find (is_for channel group) design.grants)
    (no_grant design.chip.slots channel group)

-- The queue at which a channel lands.
abbrev pub remote_at : Design → Channel → ℕ
remote_at design channel =
    queue_at design (receiver (connection_at design channel.conn) channel.side) channel.conn

-- The shape of a channel in a group: from its grant and that of the opposite channel, from what it
-- needs, and from the delay that its receiver declares.
abbrev pub shape_at : Design → Channel → ℕ → Shape
shape_at design channel group =
    let own = grant_at design channel group in
    let back = grant_at design (opposite channel) group in
    let connection = connection_at design channel.conn in
    record {
      size = design.chip.slots;
      slots = own.slots.slots;
      path_delay = path_delay design.chip.links own.path;
      rate = words_per_flit * need_of design.chip.slots connection channel.side;
      receiver_delay = (wish_of connection channel.side).delay;
      back_slots = back.slots.slots;
      back_path_delay = path_delay design.chip.links back.path;
    }
