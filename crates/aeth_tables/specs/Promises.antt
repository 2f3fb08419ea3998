-- What the tables of a use case promise: that its channels can be told apart at each interface, that
-- routes lead along paths, and that each channel has the slots and the buffer that it needs.
--
--   HaveOwnQueues, HaveOwnSlots      no two rows of one interface share a queue or a slot
--   HasDigit, HasDigits, LeadsTo      a row's route
--   HasOpposite      the row of the opposite channel mirrors a row's ends
--   IsMet      a channel's need is met
--   KeepPromises      all that the tables promise
-- Slot tables and source routing: after Æthereal (2005). The rest: this project's own.
use Rattle.std.proofs.Common.{◌≡◌, ◌<◌, ◌≤◌, ◌+◌, ◌*◌, ◌^◌, ◌/◌, ◌%◌, ◌-◌, ℕ, List, All, Contains}
use Rattle.std.proofs.Common.{Some, length, map, slice_get}
use Rattle.aeth_base.specs.Limits.{max_queue_words}
use Rattle.aeth_base.specs.declared.ids.{LinkId.LinkId, NiId.NiId, RouterId.RouterId}
use Rattle.aeth_slots.specs.Choice.{IsSuitable}
use Rattle.aeth_header.specs.Layout.{port_bits, route_bits}
use Rattle.aeth_server.specs.{ChannelShape.IsShapeInRange, ChannelShape.shape_of, Shape.buffer_of}
use Rattle.aeth_server.specs.{declared.shape.ChannelShape.ChannelShape}
use Rattle.aeth_chip.specs.{Chip.ChipData, Nodes.sender_of, Nodes.sends_on, Paths.IsAdmissible}
use Rattle.aeth_chip.specs.{declared.node.Link.Link, declared.node.Node.TheVariants.Router}
use Rattle.aeth_app.specs.{App.AppData, App.wish_of, Rates.need_of}
use Rattle.aeth_app.specs.{declared.connection.Connection.Connection}
use Rattle.aeth_group.specs.{Members.groups_of, declared.grant.Grant.Grant}
use Rattle.aeth_plan.specs.Plan.{PlanData}
use Rattle.aeth_ni.specs.declared.row.ChannelRow.{ChannelRow}
use Rattle.aeth_tables.specs.{Granted.channels_of, Granted.other_side, TableText.IsRowOf}
use Rattle.aeth_tables.specs.{Tables.TablesData}
pub use Rattle.aeth_tables.specs.TableText.{HasNumbers}

-- No two rows have one interface with the same queue.
abbrev pub HaveOwnQueues : List ChannelRow → Type 0
HaveOwnQueues rows = (i j : ℕ) (a b : ChannelRow) → slice_get rows i ≡ Some a
    → slice_get rows j ≡ Some b → a.ni ≡ b.ni → a.queue ≡ b.queue → i ≡ j

-- No two rows have one interface with a common slot.
abbrev pub HaveOwnSlots : List ChannelRow → Type 0
HaveOwnSlots rows = (i j : ℕ) (a b : ChannelRow) (slot : ℕ) → slice_get rows i ≡ Some a
    → slice_get rows j ≡ Some b → a.ni ≡ b.ni → Contains a.slots.slots slot
    → Contains b.slots.slots slot → i ≡ j

-- A route sends flits along a path: at each place after the first link, its digit is the port by which
-- a router sends on the path's link.
pub record HasDigit (links : List Link) (route place : ℕ) (link : LinkId) : Type 0 where
  pub router : RouterId
  pub sends : sender_of links link.0 ≡ Some router
  pub port : slice_get (sends_on (Router router) links)
      (route / 2 ^ (port_bits * place) % 2 ^ port_bits) ≡ Some link.0

abbrev pub HasDigits : List Link → ℕ → List LinkId → Type 0
HasDigits links route path = (place : ℕ) (link : LinkId)
    → slice_get path (place + 1) ≡ Some link → HasDigit links route place link

-- A row's slots and route are those of a grant of the plan, whose path leads from the row's interface
-- to another.
pub record LeadsTo (chip : ChipData) (app : AppData) (plan : PlanData) (row : ChannelRow)
    (to : NiId) : Type 0 where
  pub grant : Grant
  pub planned : Contains plan.grants grant
  pub slots : row.slots ≡ grant.slots
  pub leads : IsAdmissible chip.links app.detour row.ni to grant.path
  pub fits : row.route < 2 ^ route_bits
  pub digits : HasDigits chip.links row.route grant.path

-- Among some rows is that of the opposite channel of a row, and mirrors its ends: the one sends from
-- the queue in which the other lands, at the interface to which the other leads.
pub record HasOpposite (chip : ChipData) (app : AppData) (plan : PlanData) (rows : List ChannelRow)
    (row : ChannelRow) : Type 0 where
  pub opposite : ChannelRow
  pub is_in : Contains rows opposite
  pub conn : opposite.channel.conn ≡ row.channel.conn
  pub side : opposite.channel.side ≡ other_side row.channel.side
  pub queue : opposite.queue ≡ row.remote
  pub remote : opposite.remote ≡ row.queue
  pub leads : LeadsTo chip app plan row opposite.ni

-- A channel's need is met: its slots are as many, and a word that comes alone lands within the latency
-- that is wished. Its buffer is that of its shape, which a queue may have.
pub record IsMet (app : AppData) (row : ChannelRow) (shape : ChannelShape) : Type 0 where
  pub connection : Connection
  pub connection_is : slice_get app.connections row.channel.conn.0 ≡ Some connection
  pub slots : shape.slots ≡ row.slots
  pub need : shape.need ≡ need_of app.slots connection row.channel.side
  pub suitable : IsSuitable shape.need
      ((wish_of connection row.channel.side).latency + 1 - shape.links) shape.slots
  pub credits : row.credits ≡ buffer_of (shape_of shape)
  pub few_credits : row.credits ≤ max_queue_words

-- What the tables of a use case promise by a plan.
pub record KeepPromises (chip : ChipData) (app : AppData) (plan : PlanData) (tables : TablesData)
    : Type 0 where
  -- There is a row for each channel of the use case, in channel order, and a shape beside it.
  pub channels : map (λ row. row.channel) tables.rows ≡ channels_of (groups_of app) tables.uses.0
  pub beside : length tables.shapes ≡ length tables.rows
  -- Each row names what there is, and queues that interfaces have.
  pub known : All (IsRowOf chip app) tables.rows
  pub numbered : All HasNumbers tables.rows
  -- Rows of one interface share neither a queue nor a slot.
  pub queues : HaveOwnQueues tables.rows
  pub slots : HaveOwnSlots tables.rows
  -- The row of the opposite channel mirrors the ends of each, and its route leads there.
  pub opposite : All (HasOpposite chip app plan tables.rows) tables.rows
  -- Each shape meets the condition on shapes, and the need of its row's channel is met.
  pub shapes : All IsShapeInRange tables.shapes
  pub met : (i : ℕ) (row : ChannelRow) (shape : ChannelShape) → slice_get tables.rows i ≡ Some row
      → slice_get tables.shapes i ≡ Some shape → IsMet app row shape
