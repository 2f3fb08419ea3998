-- A chain as a run of an accepted plan: the inputs that offer the words of the chain on each of its
-- channels, in one use case for the whole run.
--
--   row_of, rows_at, offered_rows      what is offered on the channels of a chain, as rows of words
--   IsShapeIn, AreTabled      shapes that tables of an accepted plan have
--   forwarding_inputs      the inputs
--   last_channel, told, landings_on      the last channel of a chain, what landings tell, and those of a
--                                        channel in a log
-- This project's own.
use Rattle.std.proofs.Common.{ℕ, ◌==◌, ◌<◌, ◌≡◌, List, [], ◌∷◌, ◌++◌, Some, filter, flat_map}
use Rattle.std.proofs.Common.{length, map, slice_get}
use Rattle.std.specs.List.{range_with_len}
use Rattle.aeth_base.specs.declared.ids.{Channel.Channel, Side.TheVariants.Fwd, UseId.UseId}
use Rattle.aeth_server.specs.declared.shape.ChannelShape.{ChannelShape}
use Rattle.aeth_app.specs.App.{IsAppOf}
use Rattle.aeth_group.specs.Members.{groups_of}
use Rattle.aeth_ni.specs.declared.row.ChannelRow.{ChannelRow}
use Rattle.aeth_trace.specs.{declared.words.WordRow.WordRow, Channels.is_channel}
use Rattle.aeth_report.specs.{declared.log.Landing.Landing, Log.LogData}
use Rattle.aeth_plan.specs.Design.{IsDesign}
use Rattle.aeth_tables.specs.Tables.{TablesData, tables_of}
use Rattle.aeth_accepted.specs.Inputs.{Inputs}
use Rattle.aeth_chain.specs.declared.{item.ChainItem.ChainItem, passing.Offer.Offer}

-- An offer on a channel as a row of words.
abbrev pub row_of : Channel → Offer → WordRow
row_of channel offer =
    record { channel = channel; cycle = offer.cycle; value = offer.value }

-- What is offered in cycle t on the channels of these items, channel by channel.
abbrev pub rows_at : ℕ → List ChainItem → List (List Offer) → List WordRow
rows_at t (item ∷ items) (own ∷ offers) =
    map (row_of item.channel) (filter (λ offer. offer.cycle == t) own) ++ rows_at t items offers
rows_at t _ _ = []

-- What is offered on them in a run, cycle by cycle.
abbrev pub offered_rows : ℕ → List ChainItem → List (List Offer) → List WordRow
offered_rows cycles items offers =
    flat_map (λ t. rows_at t items offers) (range_with_len 0 cycles)

-- A shape is that of a channel in tables: the one beside the channel's row.
pub record IsShapeIn (tables : TablesData) (channel : Channel) (shape : ChannelShape) : Type 0 where
  pub place : ℕ
  pub row : ChannelRow
  pub row_at : slice_get tables.rows place ≡ Some row
  pub channel_is : row.channel ≡ channel
  pub shape_at : slice_get tables.shapes place ≡ Some shape

-- The plan of inputs is accepted, and items have the shapes that its tables of a use case have.
pub record AreTabled (inputs : Inputs) (u : UseId) (items : List ChainItem)
    (shapes : List ChannelShape) : Type 0 where
  pub design : IsDesign inputs.chip inputs.app inputs.plan
  pub of_chip : IsAppOf inputs.chip inputs.app
  pub use_case : u.0 < length inputs.app.uses
  pub tabled : (i : ℕ) (item : ChainItem) (shape : ChannelShape) → slice_get items i ≡ Some item
      → slice_get shapes i ≡ Some shape
      → IsShapeIn (tables_of inputs.chip inputs.app (groups_of inputs.app) inputs.plan u)
      item.channel shape

-- These inputs, with the words that a chain offers on its channels, in this use case throughout.
abbrev pub forwarding_inputs : Inputs → UseId → List ChainItem → List (List Offer) → Inputs
forwarding_inputs inputs u items offers = record inputs {
  words = offered_rows inputs.cycles items offers;
  switches = record { cycle = 0; to = u; drain = 0 } ∷ [];
}

-- The last channel of a chain.
abbrev pub last_channel : List ChainItem → Channel
last_channel [] = record { conn = record { 0 = 0 }; side = Fwd }
last_channel (item ∷ []) = item.channel
last_channel (item ∷ next ∷ items) = last_channel (next ∷ items)

-- When words landed, with their values.
abbrev pub told : List Landing → List (ℕ × ℕ)
told landings = map (λ row. (row.landed, row.value)) landings

-- The landings of a channel in a log, in the order of its sessions.
abbrev pub landings_on : LogData → Channel → List Landing
landings_on log channel =
    flat_map (λ one. flat_map (λ session. session.rows) one.sessions)
    (filter (λ one. is_channel channel one.channel) log.channels)
