-- Lines: the channels of a use case, each as the tables have it.
--
--   end_of      the queue from which a channel is sent
--   line_with, lines_with      a line, and those of tables
--   lines_in_use, lines_of, all_lines      the channels of a use case, in channel order, and those of all
--   lines_at, changed_lines      those of one out of all, and those that a switch doesn't keep
-- Connections with a channel each way: after Æthereal (2005).
use Rattle.std.proofs.Common.{ℕ, not, List, [], ◌∷◌, filter, length, map}
use Rattle.std.specs.List.{range_with_len, slice_index_or}
use Rattle.aeth_chip.specs.Chip.{ChipData}
use Rattle.aeth_app.specs.App.{AppData}
use Rattle.aeth_plan.specs.Plan.{PlanData}
use Rattle.aeth_server.specs.declared.shape.ChannelShape.{ChannelShape}
use Rattle.aeth_group.specs.Members.{GroupsData, groups_of, is_kept}
use Rattle.aeth_ni.specs.declared.row.ChannelRow.{ChannelRow}
use Rattle.aeth_tables.specs.Tables.{tables_of}
use Rattle.aeth_components.specs.declared.channel_state.ChannelEnd.{ChannelEnd}
use Rattle.aeth_accepted.specs.Inputs.{Inputs}
use Rattle.aeth_schedule.specs.declared.lines.Line.{Line}

-- The queue at its interface from which a channel is sent.
abbrev pub end_of : ChannelRow → ChannelEnd
end_of row = record { ni = row.ni; queue = row.queue }

-- A line by its row, its shape, and the row of the opposite channel: it lands where this is sent from.
abbrev pub line_with : ChannelRow → ChannelShape → ChannelRow → Line
line_with row shape other = record { row = row; shape = shape; receiver = end_of other }

-- The lines of tables, in which the rows of a connection's channels are side by side.
abbrev pub lines_with : List ChannelRow → List ChannelShape → List Line
lines_with (fwd ∷ back ∷ rows) (fwd_shape ∷ back_shape ∷ shapes) =
    line_with fwd fwd_shape back ∷ line_with back back_shape fwd ∷ lines_with rows shapes
lines_with _ _ = []

-- The channels of a use case by a plan, in channel order.
abbrev pub lines_in_use : ChipData → AppData → PlanData → ℕ → List Line
lines_in_use chip app plan u =
    let tables = tables_of chip app (groups_of app) plan (record { 0 = u }) in
    lines_with tables.rows tables.shapes

abbrev pub lines_of : Inputs → ℕ → List Line
lines_of inputs u = lines_in_use inputs.chip inputs.app inputs.plan u

-- For each use case its channels.
abbrev pub all_lines : Inputs → List (List Line)
all_lines inputs = map (lines_of inputs) (range_with_len 0 (length inputs.app.uses))

-- The channels of a use case, where these are those of all.
abbrev pub lines_at : List (List Line) → ℕ → List Line
lines_at all u = slice_index_or all u []

-- Those channels of a use case that a switch doesn't keep.
abbrev pub changed_lines : GroupsData → ℕ → ℕ → List Line → List Line
changed_lines groups u v lines =
    filter (λ line. not (is_kept groups u v line.row.channel.conn.0)) lines
