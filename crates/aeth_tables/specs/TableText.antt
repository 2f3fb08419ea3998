-- The text of the tables of a use case.
--
--   promised_of      the rows, each with what its channel is promised
--   rows_at      the rows of an interface
--   list_at, AreOwn      a list for each interface
--   lines_of_slot, entries_with, entries_at, entry_lines, listed_entries      the lines of entries
--   lines_of_queue, queues_with, queues_at, queue_lines, listed_queues      the lines of queues
--   table_text      the text
--   HasTableOf, NamesConnection, IsRowOf, HasNumbers      what a row names
--   IsPrintable      tables that can be printed
-- This project's own.
use Rattle.std.proofs.Common.{◌≡◌, ◌<◌, ℕ, ◌==◌, List, [], ◌∷◌, ◌++◌, All, codes, filter, flat_map}
use Rattle.std.proofs.Common.{length, map, None, Option, slice_get, Some}
use Rattle.std.specs.declared.{alloc.Global.Global, vec.Vec.Vec}
use Rattle.std.specs.List.{range_with_len, zip}
use Rattle.aeth_text.specs.Spelling.{text_of_lines}
use Rattle.aeth_slots.specs.SlotSet.{has_slot}
use Rattle.aeth_server.specs.{ChannelShape.IsShapeInRange, ChannelShape.shape_of}
use Rattle.aeth_server.specs.{Shape.channel_latency, declared.shape.ChannelShape.ChannelShape}
use Rattle.aeth_chip.specs.Chip.{ChipData}
use Rattle.aeth_app.specs.App.{AppData}
use Rattle.aeth_plan.specs.Plan.{connection_names, name_at}
use Rattle.aeth_ni.specs.{Limits.queues_of_interface, declared.row.ChannelRow.ChannelRow}
use Rattle.aeth_trace.specs.Switches.{use_names}
use Rattle.aeth_tables.specs.{Lines.entry_line, Lines.head_line, Lines.queue_line}
use Rattle.aeth_tables.specs.{Tables.TablesData, declared.promised.PromisedRow.PromisedRow}

-- A row, with what the shape of its channel promises.
abbrev pub promised : ChannelRow × ChannelShape → PromisedRow
promised p = record {
  row = p.0;
  rate = (shape_of p.1).rate;
  latency = channel_latency (shape_of p.1);
}

-- The rows, each with what its channel is promised.
abbrev pub promised_of : List ChannelRow → List ChannelShape → List PromisedRow
promised_of rows shapes = map promised (zip rows shapes)

-- The rows of an interface.
abbrev pub rows_at : ℕ → List PromisedRow → List PromisedRow
rows_at ni rows = filter (λ one. one.row.ni.0 == ni) rows

-- The rows of a list that may be missing.
abbrev pub rows_in_list : Option (Vec PromisedRow Global) → List PromisedRow
rows_in_list None = []
rows_in_list (Some list) = list.items

-- Those of an interface, where these are the lists of all.
abbrev pub list_at : List (Vec PromisedRow Global) → ℕ → List PromisedRow
list_at lists ni = rows_in_list (slice_get lists ni)

-- The lists of so many interfaces have the rows of each.
abbrev pub AreOwn : ℕ → List PromisedRow → List (Vec PromisedRow Global) → Type 0
AreOwn nis rows lists = (ni : ℕ) → ni < nis → list_at lists ni ≡ rows_at ni rows

-- The lines of a slot, of these rows of an interface that has this name.
abbrev pub lines_of_slot : List ℕ → List PromisedRow → ℕ → List (List ℕ)
lines_of_slot name rows slot = map (λ one. entry_line name slot one.row.queue)
    (filter (λ one. has_slot one.row.slots slot) rows)

-- The lines of a queue, of these rows of an interface that has this name.
abbrev pub lines_of_queue : AppData → List ℕ → List PromisedRow → ℕ → List (List ℕ)
lines_of_queue app name rows queue =
    map (λ one. queue_line name (name_at (connection_names app) one.row.channel.conn.0) one)
    (filter (λ one. one.row.queue == queue) rows)

-- The `entry` lines of an interface that has these rows, in the order of slots.
abbrev pub entries_with : ChipData → List PromisedRow → ℕ → List (List ℕ)
entries_with chip own ni =
    flat_map (lines_of_slot (name_at chip.nis ni) own) (range_with_len 0 chip.slots)

-- Those of an interface.
abbrev pub entries_at : ChipData → List PromisedRow → ℕ → List (List ℕ)
entries_at chip rows ni = entries_with chip (rows_at ni rows) ni

-- The `queue` lines of an interface that has these rows, in the order of queues.
unfoldable pub queues_with : ChipData → AppData → List PromisedRow → ℕ → List (List ℕ)
queues_with chip app own ni = flat_map (lines_of_queue app (name_at chip.nis ni) own)
    (range_with_len 0 queues_of_interface)

-- Those of an interface.
abbrev pub queues_at : ChipData → AppData → List PromisedRow → ℕ → List (List ℕ)
queues_at chip app rows ni = queues_with chip app (rows_at ni rows) ni

-- The `entry` lines, in the order of interfaces and slots.
abbrev pub entry_lines : ChipData → List PromisedRow → List (List ℕ)
entry_lines chip rows = flat_map (entries_at chip rows) (range_with_len 0 (length chip.nis))

-- The `queue` lines, in the order of interfaces and queues.
abbrev pub queue_lines : ChipData → AppData → List PromisedRow → List (List ℕ)
queue_lines chip app rows = flat_map (queues_at chip app rows) (range_with_len 0 (length chip.nis))

-- The `entry` lines of the interfaces that have these lists, and the `queue` lines.
abbrev pub listed_entries : ChipData → List (Vec PromisedRow Global) → List (List ℕ)
listed_entries chip lists =
    flat_map (λ ni. entries_with chip (list_at lists ni) ni) (range_with_len 0 (length chip.nis))

abbrev pub listed_queues : ChipData → AppData → List (Vec PromisedRow Global) → List (List ℕ)
listed_queues chip app lists =
    flat_map (λ ni. queues_with chip app (list_at lists ni) ni) (range_with_len 0 (length chip.nis))

-- The lines of these rows of a use case.
abbrev pub lines_with : ChipData → AppData → ℕ → List PromisedRow → List (List ℕ)
lines_with chip app u rows = head_line (name_at (use_names app) u)
    ∷ (entry_lines chip rows ++ (queue_lines chip app rows ++ codes "end" ∷ []))

-- The text of tables.
unfoldable pub table_text : ChipData → AppData → TablesData → List ℕ
table_text chip app tables =
    text_of_lines (lines_with chip app tables.uses.0 (promised_of tables.rows tables.shapes))

-- The slots of a row are of the chip's table.
abbrev pub HasTableOf : ChipData → PromisedRow → Type 0
HasTableOf chip one = one.row.slots.size ≡ chip.slots

-- A row names a connection that there is.
abbrev pub NamesConnection : AppData → PromisedRow → Type 0
NamesConnection app one = one.row.channel.conn.0 < length app.connections

-- A row names an interface and a connection that there are, and its slots are of the chip's table.
pub record IsRowOf (chip : ChipData) (app : AppData) (row : ChannelRow) : Type 0 where
  pub ni : row.ni.0 < length chip.nis
  pub conn : row.channel.conn.0 < length app.connections
  pub size : row.slots.size ≡ chip.slots

-- A row's queues are among those of an interface: so its queue has a line, as its slots have.
pub record HasNumbers (row : ChannelRow) : Type 0 where
  pub queue : row.queue < queues_of_interface
  pub remote : row.remote < queues_of_interface

-- Tables that can be printed: there is a shape in its range for each row, and the rows and the use
-- case name what there is.
pub record IsPrintable (chip : ChipData) (app : AppData) (tables : TablesData) : Type 0 where
  pub use_case : tables.uses.0 < length app.uses
  pub count : length tables.rows ≡ length tables.shapes
  pub rows : All (IsRowOf chip app) tables.rows
  pub numbered : All HasNumbers tables.rows
  pub shapes : All IsShapeInRange tables.shapes
