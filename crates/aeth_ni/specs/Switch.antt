-- From one use case to another: which channels close and open, and what the tables hold meanwhile.
-- Channels that go on through a switch: this project's own.
use Rattle.std.proofs.Common.{◌≡◌, ◌⊎◌, List, Contains}
use Rattle.std.specs.List.{flat_map}
use Rattle.aeth_ni.specs.declared.row.ChannelRow.{ChannelRow}
use Rattle.aeth_ni.specs.Program.{Entry, entries_of_channel}

-- The entries of these channels.
abbrev pub entries_in : List ChannelRow → List Entry
entries_in rows = flat_map entries_of_channel rows

-- Two entries are of one slot of one interface.
abbrev pub IsSameSlot : Entry → Entry → Type 0
IsSameSlot some other = (some.ni ≡ other.ni) × (some.slot ≡ other.slot)

-- The channels of a use case that is left are those that go on and those that close, and the
-- channels of the one that is entered are those that go on and those that open.
pub record IsSwitch (left entered kept closing opening : List ChannelRow) : Type 0 where
  pub leaves : (row : ChannelRow) → Contains left row → Contains kept row ⊎ Contains closing row
  pub enters : (row : ChannelRow) → Contains entered row → Contains kept row ⊎ Contains opening row
  pub kept_left : (row : ChannelRow) → Contains kept row → Contains left row
  pub kept_entered : (row : ChannelRow) → Contains kept row → Contains entered row
  pub opened : (row : ChannelRow) → Contains opening row → Contains entered row

-- No two channels have one slot of one interface, where both are in the use case that is entered,
-- or one goes on and the other closes.
pub record AreSlotsApart (entered kept closing : List ChannelRow) : Type 0 where
  pub within : (some other : Entry) → Contains (entries_in entered) some
      → Contains (entries_in entered) other → IsSameSlot some other → some.queue ≡ other.queue
  pub from_closing : (some other : Entry) → Contains (entries_in kept) some
      → Contains (entries_in closing) other → IsSameSlot some other → ⊥
