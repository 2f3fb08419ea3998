-- The rows of a channel, and of these the ones up to a cycle.
--
--   is_channel      whether two channels are the same
--   rows_on, rows_until      the rows of a channel; those that aren't later than a cycle
--   side_number, channel_number      channels in their order
--   list_at, IsByChannel      an index of rows by their channels
-- This project's own.
use Rattle.std.proofs.Common.{◌≡◌, ℕ, ◌+◌, ◌*◌, ◌&&◌, ◌==◌, nat_le, Bool, List, [], Option, Some}
use Rattle.std.proofs.Common.{None, filter, map, slice_get}
use Rattle.std.specs.declared.{alloc.Global.Global, vec.Vec.Vec}
use Rattle.aeth_base.specs.{Sides.same_side, declared.ids.Channel.Channel, declared.ids.Side.Side}
use Rattle.aeth_base.specs.{declared.ids.Side.TheVariants.Back, declared.ids.Side.TheVariants.Fwd}

-- Whether two channels are the same.
abbrev pub is_channel : Channel → Channel → Bool
is_channel one other = one.conn.0 == other.conn.0 && same_side one.side other.side

-- The rows of a channel, in file order, where this is the channel of a row.
abbrev pub rows_on : {R : Type 0} → (R → Channel) → Channel → List R → List R
rows_on of channel rows = filter (λ row. is_channel channel (of row)) rows

-- The rows that aren't later than a cycle, in file order, where this is the cycle of a row.
abbrev pub rows_until : {R : Type 0} → (R → ℕ) → ℕ → List R → List R
rows_until at cycle rows = filter (λ row. nat_le (at row) cycle) rows

-- The number of a side within a connection, and that of a channel: in channel order.
abbrev pub side_number : Side → ℕ
side_number Fwd = 0
side_number Back = 1

abbrev pub channel_number : Channel → ℕ
channel_number channel = 2 * channel.conn.0 + side_number channel.side

-- The list at a place of a list of lists, empty where there is none.
abbrev pub list_in : Option (Vec ℕ Global) → List ℕ
list_in None = []
list_in (Some list) = list.items

abbrev pub list_at : List (Vec ℕ Global) → ℕ → List ℕ
list_at lists place = list_in (slice_get lists place)

-- The lists have the numbers of each channel's rows, in file order.
abbrev pub IsByChannel : {R : Type 0} → (R → Channel) → List R → List (Vec ℕ Global) → Type 0
IsByChannel of rows lists = (channel : Channel)
    → map (slice_get rows) (list_at lists (channel_number channel))
    ≡ map Some (rows_on of channel rows)
