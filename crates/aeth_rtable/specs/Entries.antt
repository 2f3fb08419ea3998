-- Entries for each link and slot: from which link flits come onto the link in the slot. Those of a
-- link stand one after the other, and behind those of the links before it. This project's own.
--
--   HasEntries      entries of some hops
--   Adds      a change by more hops
use Rattle.std.proofs.Common.{◌≡◌, ◌<◌, ◌+◌, ◌*◌, ◌++◌, ℕ, List, Option, Some, length, slice_get}
use Rattle.aeth_base.specs.declared.ids.LinkId.{LinkId}
use Rattle.aeth_rtable.specs.{Hops.entry_at, declared.hops.Hop.Hop}

-- The entries, so many for each link, are those of some hops.
abbrev pub HasEntries : ℕ → List Hop → List (Option LinkId) → Type 0
HasEntries slots hops entries = (link slot : ℕ) → slot < slots
    → link * slots + slot < length entries
    → slice_get entries (link * slots + slot) ≡ Some (entry_at hops link slot)

-- Where entries were those of some hops, they are those of these and of more.
abbrev pub Adds : ℕ → List Hop → List (Option LinkId) → List (Option LinkId) → Type 0
Adds slots more old new =
    (hops : List Hop) → HasEntries slots hops old → HasEntries slots (hops ++ more) new
