-- The rows of the channels of use cases, and what the writes of a switch between two of them touch.
--
--   RowOf, channels_that, rows_that      the row of a channel in a group, and the channels and rows of
--                                        some connections
--   rows_left, rows_entered, rows_kept, rows_closing, rows_opening      the rows of a switch
--   switch_program      its writes
--   Meets, AreApart      rows that share a queue or a slot of an interface
--   Touches      what a write names of a row
--   AreWithin      entries that are all of some rows
-- Slot tables that are written while the network runs: after Æthereal (2005). The rest: this
-- project's own.
use Rattle.std.proofs.Common.{◌≡◌, ◌⊎◌, ℕ, Bool, IsTrue, List, Contains, filter, flat_map, map}
use Rattle.std.specs.List.{range_with_len}
use Rattle.aeth_base.specs.declared.ids.Channel.{Channel}
use Rattle.aeth_group.specs.Members.{GroupsData, group_at, has_at, is_kept}
use Rattle.aeth_ni.specs.Program.{Entry, program_of}
use Rattle.aeth_ni.specs.Switch.{entries_in}
use Rattle.aeth_ni.specs.declared.row.ChannelRow.{ChannelRow}
use Rattle.aeth_ni.specs.declared.write.Write.{Write}
use Rattle.aeth_ni.specs.declared.write.Write.TheVariants.{ClearRoute, ClearSlot, SetRoute, SetSlot}
use Rattle.aeth_report.specs.{Channels.channels_with, Sessions.closes, Sessions.opens}

-- The row of each channel in each group, by which it is in the tables of its interface.
abbrev pub RowOf : Type 0
RowOf = ℕ → Channel → ChannelRow

-- The channels of the connections that pass a test, in channel order.
abbrev pub channels_that : GroupsData → (ℕ → Bool) → List Channel
channels_that groups test =
    flat_map channels_with (filter test (range_with_len 0 groups.connections))

-- Their rows in a group.
abbrev pub rows_that : GroupsData → RowOf → ℕ → (ℕ → Bool) → List ChannelRow
rows_that groups row_of group test = map (row_of group) (channels_that groups test)

module _ (groups : GroupsData) (row_of : RowOf) (u v : ℕ) where
  -- The rows of the use case that is left.
  abbrev pub rows_left : List ChannelRow
  rows_left = rows_that groups row_of (group_at groups u) (has_at groups u)

  -- The rows of the one that is entered.
  abbrev pub rows_entered : List ChannelRow
  rows_entered = rows_that groups row_of (group_at groups v) (has_at groups v)

  -- The rows that are kept.
  abbrev pub rows_kept : List ChannelRow
  rows_kept = rows_that groups row_of (group_at groups u) (is_kept groups u v)

  -- The rows of the channels that close.
  abbrev pub rows_closing : List ChannelRow
  rows_closing = rows_that groups row_of (group_at groups u) (closes groups u v)

  -- The rows of the channels that open.
  abbrev pub rows_opening : List ChannelRow
  rows_opening = rows_that groups row_of (group_at groups v) (opens groups u v)

  -- The writes of a switch between the two.
  abbrev pub switch_program : List Write
  switch_program = program_of rows_closing rows_opening

-- Two rows have a queue or a slot of one interface in common.
pub record Meets (a b : ChannelRow) : Type 0 where
  pub ni : a.ni ≡ b.ni
  pub shares : (a.queue ≡ b.queue)
      ⊎ ((slot : ℕ) × Contains a.slots.slots slot × Contains b.slots.slots slot)

-- No two channels of a use case have a queue or a slot of one interface in common.
abbrev pub AreApart : GroupsData → RowOf → ℕ → Type 0
AreApart groups row_of u = (one other : Channel) → IsTrue (has_at groups u one.conn.0)
    → IsTrue (has_at groups u other.conn.0)
    → Meets (row_of (group_at groups u) one) (row_of (group_at groups u) other) → one ≡ other

-- A write names a slot or the queue of a row.
abbrev pub Touches : Write → ChannelRow → Type 0
Touches (ClearSlot ni slot) row = (ni ≡ row.ni) × Contains row.slots.slots slot
Touches (ClearRoute ni queue) row = (ni ≡ row.ni) × (queue ≡ row.queue)
Touches (SetRoute ni queue route remote credits) row = (ni ≡ row.ni) × (queue ≡ row.queue)
Touches (SetSlot ni slot queue) row =
    (ni ≡ row.ni) × (Contains row.slots.slots slot ⊎ (queue ≡ row.queue))

-- All entries are of these rows.
abbrev pub AreWithin : List Entry → List ChannelRow → Type 0
AreWithin entries rows = (entry : Entry) → Contains entries entry
    → Contains (entries_in rows) entry
