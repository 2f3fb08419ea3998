-- Programs: the writes that bring the tables of all interfaces from one use case to another, and
-- the slot entries that the interfaces hold on the way.
-- One write in a cycle, through one central port: this project's own.
use Rattle.std.proofs.Common.{ℕ, ◌+◌, ◌==◌, ◌&&◌, not, List, [], ◌∷◌, ◌++◌, map, filter, fold, take}
use Rattle.std.proofs.Common.{length}
use Rattle.std.specs.List.{flat_map}
use Rattle.aeth_base.specs.declared.ids.NiId.{NiId}
use Rattle.aeth_ni.specs.declared.row.ChannelRow.{ChannelRow}
use Rattle.aeth_ni.specs.declared.write.Write.{Write}
use Rattle.aeth_ni.specs.declared.write.Write.TheVariants.{ClearSlot, ClearRoute, SetRoute, SetSlot}

-- The writes that close a channel: each slot is cleared, ascending, and then the route.
abbrev pub closing_writes : ChannelRow → List Write
closing_writes row =
    map (λ slot. ClearSlot row.ni slot) row.slots.slots ++ ClearRoute row.ni row.queue ∷ []

-- The writes that open a channel: the route is set, and then each slot, ascending.
abbrev pub opening_writes : ChannelRow → List Write
opening_writes row =
    SetRoute row.ni row.queue row.route row.remote row.credits
    ∷ map (λ slot. SetSlot row.ni slot row.queue) row.slots.slots

-- How many they are, in either case.
abbrev pub write_count : ChannelRow → ℕ
write_count row = length row.slots.slots + 1

-- The closing channels in their order, and then the opening ones in theirs.
abbrev pub program_of : List ChannelRow → List ChannelRow → List Write
program_of closing opening = flat_map closing_writes closing ++ flat_map opening_writes opening

-- A slot's entry in the tables of one interface.
pub record Entry : Type 0 where
  pub ni : NiId
  pub slot : ℕ
  pub queue : ℕ

-- The entries of one channel.
abbrev pub entries_of_channel : ChannelRow → List Entry
entries_of_channel row =
    map (λ slot. record { ni = row.ni; slot = slot; queue = row.queue }) row.slots.slots

-- The entries but that of one slot of one interface.
abbrev pub without_entry : NiId → ℕ → List Entry → List Entry
without_entry ni slot entries =
    filter (λ entry. not ((entry.ni.0 == ni.0) && (entry.slot == slot))) entries

-- The entries behind one write.
abbrev pub entries_behind : List Entry → Write → List Entry
entries_behind entries (ClearSlot ni slot) = without_entry ni slot entries
entries_behind entries (SetSlot ni slot queue) =
    record { ni = ni; slot = slot; queue = queue } ∷ without_entry ni slot entries
entries_behind entries (ClearRoute ni queue) = entries
entries_behind entries (SetRoute ni queue route remote credits) = entries

-- The entries of all interfaces after so many writes of a program, where before the first they
-- hold those of these channels.
abbrev pub entries_after : List ChannelRow → List Write → ℕ → List Entry
entries_after held program count =
    fold entries_behind (flat_map entries_of_channel held) (take count program)
