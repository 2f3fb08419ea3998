-- The shapes of the channels of a chain, as the tables of a use case have them.
-- This project's own.
use Rattle.std.proofs.Common.{◌≡◌, ℕ, List, Option, Some, position, slice_get}
use Rattle.std.specs.{List.filter_map, Option.option_and_then}
use Rattle.aeth_base.specs.declared.ids.Channel.{Channel}
use Rattle.aeth_server.specs.declared.shape.ChannelShape.{ChannelShape}
use Rattle.aeth_ni.specs.declared.row.ChannelRow.{ChannelRow}
use Rattle.aeth_tables.specs.Tables.{TablesData}
use Rattle.aeth_trace.specs.Channels.{is_channel}
use Rattle.aeth_chain.specs.{ChainInputs.IsShapeIn, declared.item.ChainItem.ChainItem}

-- The place of a channel's row, and the shape beside it.
abbrev pub place_in : List ChannelRow → Channel → Option ℕ
place_in rows channel = position (λ row. is_channel channel row.channel) rows

abbrev pub shape_in : TablesData → Channel → Option ChannelShape
shape_in tables channel = option_and_then (slice_get tables.shapes) (place_in tables.rows channel)

-- The shapes of the channels of some items.
abbrev pub shapes_in : TablesData → List ChainItem → List ChannelShape
shapes_in tables items = filter_map (λ item. shape_in tables item.channel) items

-- Items have these shapes in tables.
abbrev pub AreShapesIn : TablesData → List ChainItem → List ChannelShape → Type 0
AreShapesIn tables items shapes = (i : ℕ) (item : ChainItem) (shape : ChannelShape)
    → slice_get items i ≡ Some item → slice_get shapes i ≡ Some shape
    → IsShapeIn tables item.channel shape
