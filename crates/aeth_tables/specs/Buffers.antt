-- What channels need at their receiving interfaces by a plan.
--
--   buffer_on, buffers_on      of a channel, and of the two of a connection
--   buffers_at, buffers_for, buffers_in      of a connection that is granted, in a group, and in all
--   buffers_of      of all connections
-- Buffers at the receiving interface: after Æthereal (2005).
use Rattle.std.proofs.Common.{ℕ, List, [], ◌∷◌, Option, Some, None, flat_map, if◌then◌else◌, length}
use Rattle.std.specs.List.{range_with_len}
use Rattle.aeth_base.specs.declared.ids.Side.{Side, TheVariants.Fwd, TheVariants.Back}
use Rattle.aeth_server.specs.{ChannelShape.shape_of, Shape.buffer_of}
use Rattle.aeth_chip.specs.Chip.{ChipData}
use Rattle.aeth_app.specs.App.{AppData}
use Rattle.aeth_group.specs.Members.{GroupsData, is_member}
use Rattle.aeth_plan.specs.Plan.{PlanData}
use Rattle.aeth_tables.specs.{Granted.granted_of, Granted.receiving_seat, Tables.queue_at}
use Rattle.aeth_tables.specs.{Tables.shape_on, declared.buffering.Buffer.Buffer}
use Rattle.aeth_tables.specs.{declared.granted.GrantedConnection.GrantedConnection}

-- What the channel of a side needs: the queue at which it lands, and the words for which this must have
-- room.
abbrev pub buffer_on : ChipData → AppData → GrantedConnection → Side → Buffer
buffer_on chip app granted side = record {
  ni = (receiving_seat granted side).ni;
  queue = queue_at app granted.conn (receiving_seat granted side);
  words = buffer_of (shape_of (shape_on chip app granted side));
}

-- What a connection's two channels need, in their order.
abbrev pub buffers_on : ChipData → AppData → GrantedConnection → List Buffer
buffers_on chip app granted = buffer_on chip app granted Fwd ∷ buffer_on chip app granted Back ∷ []

-- Where it has its seats and grants.
abbrev pub buffers_at : ChipData → AppData → Option GrantedConnection → List Buffer
buffers_at chip app None = []
buffers_at chip app (Some granted) = buffers_on chip app granted

module _ (chip : ChipData) (app : AppData) (groups : GroupsData) (plan : PlanData) where
  -- What the channels of a connection need in a group, where this has it.
  abbrev pub buffers_for : ℕ → ℕ → List Buffer
  buffers_for c g =
      if is_member groups g c then buffers_at chip app (granted_of app plan g c) else []

  -- What they need in all groups.
  abbrev pub buffers_in : ℕ → List Buffer
  buffers_in c = flat_map (buffers_for c) (range_with_len 0 groups.count)

  -- What all channels need, in each group that has their connections.
  unfoldable pub buffers_of : List Buffer
  buffers_of = flat_map buffers_in (range_with_len 0 (length app.connections))
