-- The events of a cycle, and what each needs.
-- This project's own.
use Rattle.std.proofs.Common.{◌≡◌, ◌<◌, ℕ, List, length, IfSome, slice_get}
use Rattle.aeth_ni.specs.declared.write.Write.{Write}
use Rattle.aeth_ni.specs.declared.write.Write.TheVariants.{ClearSlot, ClearRoute, SetRoute, SetSlot}
use Rattle.aeth_ni.specs.Limits.{queues_of_interface}
use Rattle.aeth_ni.specs.Queue.{IsRoute}
use Rattle.aeth_ni.specs.Writes.{addressee}
use Rattle.aeth_components.specs.declared.event.Event.{Event}
use Rattle.aeth_components.specs.declared.event.Event.TheVariants.{Halt, Finish, Change}
use Rattle.aeth_components.specs.Wirings.{Wiring, InterfaceWiring, RouterWiring, StageWiring}

-- The number of the component that an event is for.
abbrev pub event_part : Event → ℕ
event_part (Halt end) = end.ni.0
event_part (Finish end) = end.ni.0
event_part (Change write) = (addressee write).0

-- The slot and the queue that a write names are there, among so many slots, and its route fits a
-- header.
abbrev pub IsWithin : Write → ℕ → Type 0
IsWithin (ClearSlot ni slot) slots = slot < slots
IsWithin (ClearRoute ni queue) slots = queue < queues_of_interface
IsWithin (SetRoute ni queue route remote credits) slots =
    (queue < queues_of_interface) × IsRoute (record { ports = route; remote = remote })
IsWithin (SetSlot ni slot queue) slots = (slot < slots) × (queue < queues_of_interface)

-- What a write needs of the component that it is for, where this is an interface: its number, and
-- the slot.
abbrev pub Addresses : Write → Wiring → Type 0
Addresses write (InterfaceWiring number leaving entering slots queues) =
    (addressee write ≡ number) × IsWithin write slots
Addresses write (RouterWiring incoming outgoing) = Unit
Addresses write (StageWiring input output) = Unit

-- What an event needs of it.
abbrev pub Suits : Event → Wiring → Type 0
Suits (Halt end) wiring = end.queue < queues_of_interface
Suits (Finish end) wiring = end.queue < queues_of_interface
Suits (Change write) wiring = Addresses write wiring

-- The event's component is there, and suits it.
pub record IsDoable (wirings : List Wiring) (event : Event) : Type 0 where
  pub part : event_part event < length wirings
  pub suits : IfSome (slice_get wirings (event_part event)) (Suits event)
