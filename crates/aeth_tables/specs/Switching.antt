-- How long switches between use cases take, by a plan: the lag, until no flit of a channel that
-- closes is on its way, and the number of writes to the tables of the interfaces.
--
--   changing, rows_in, delays_in      the connections that a switch changes, their rows and delays
--   lag_of      the lag of a switch
--   closing_rows, opening_rows, writes_of      its writes
--   spans_of      those of all switches
-- Slot tables that are written while the network runs: after Æthereal (2005). The rest: this
-- project's own.
use Rattle.std.proofs.Common.{ℕ, ◌+◌, not, List, [], ◌∷◌, filter, flat_map, length, map, sum_by}
use Rattle.std.specs.List.{range_with_len}
use Rattle.aeth_slots.specs.SlotSet.{greatest}
use Rattle.aeth_chip.specs.{Chip.ChipData, Paths.path_delay}
use Rattle.aeth_app.specs.App.{AppData}
use Rattle.aeth_group.specs.Members.{GroupsData, is_kept}
use Rattle.aeth_plan.specs.Plan.{PlanData}
use Rattle.aeth_ni.specs.{Program.write_count, declared.row.ChannelRow.ChannelRow}
use Rattle.aeth_trace.specs.Spans.{SpanData}
use Rattle.aeth_tables.specs.{Granted.granted_in, Tables.rows_on}
use Rattle.aeth_tables.specs.{declared.granted.GrantedConnection.GrantedConnection}

-- Those of some connections that a switch between two use cases doesn't keep. Of the connections of
-- the one that is left they close, of those of the one that is entered they open.
abbrev pub changing : GroupsData → ℕ → ℕ → List GrantedConnection → List GrantedConnection
changing groups u v connections = filter (λ one. not (is_kept groups u v one.conn.0)) connections

-- The rows of the channels of some connections.
abbrev pub rows_in : ChipData → AppData → List GrantedConnection → List ChannelRow
rows_in chip app connections = flat_map (rows_on chip app) connections

-- The path delays of the channels of some connections.
abbrev pub delays_in : ChipData → List GrantedConnection → List ℕ
delays_in chip connections = flat_map (λ one.
    path_delay chip.links one.fwd.path ∷ path_delay chip.links one.back.path ∷ []) connections

-- The lag of a switch: the greatest path delay of a channel that closes; 0 where none does.
abbrev pub lag_of : ChipData → AppData → GroupsData → PlanData → ℕ → ℕ → ℕ
lag_of chip app groups plan u v =
    greatest (delays_in chip (changing groups u v (granted_in app groups plan u)))

-- The rows of the channels that a switch closes: those of the use case that is left which it doesn't
-- keep.
abbrev pub closing_rows : ChipData → AppData → GroupsData → PlanData → ℕ → ℕ → List ChannelRow
closing_rows chip app groups plan u v =
    rows_in chip app (changing groups u v (granted_in app groups plan u))

-- The rows of those that it opens, of the use case that is entered.
abbrev pub opening_rows : ChipData → AppData → GroupsData → PlanData → ℕ → ℕ → List ChannelRow
opening_rows chip app groups plan u v =
    rows_in chip app (changing groups u v (granted_in app groups plan v))

-- The number of writes of a switch: for each channel that closes or opens one for each of its slots,
-- and one for its route.
abbrev pub writes_of : ChipData → AppData → GroupsData → PlanData → ℕ → ℕ → ℕ
writes_of chip app groups plan u v =
    sum_by write_count (closing_rows chip app groups plan u v)
    + sum_by write_count (opening_rows chip app groups plan u v)

-- The spans of all switches from a use case.
abbrev pub spans_from : ChipData → AppData → GroupsData → PlanData → ℕ → List (ℕ × ℕ)
spans_from chip app groups plan u =
    map (λ v. (lag_of chip app groups plan u v, writes_of chip app groups plan u v))
    (range_with_len 0 (length groups.uses))

-- The spans of all switches.
unfoldable pub spans_of : ChipData → AppData → GroupsData → PlanData → SpanData
spans_of chip app groups plan = record {
  uses = length groups.uses;
  pairs = flat_map (spans_from chip app groups plan) (range_with_len 0 (length groups.uses));
}
