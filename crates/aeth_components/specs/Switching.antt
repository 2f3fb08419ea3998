-- What the events of a cycle do to one queue and to one entry of a slot table.
--
--   write_end, event_end, queue_written, queue_done      the queue that an event changes, and what it makes of it
--   Touches, SwitchesAlone      an event changes a queue, and what all events do to it
--   entry_in, entry_of, SlotWrite, slot_written, slot_write      entries of tables, and writes to them
--   Writes, WritesAlone      an event writes a slot, and what all events do to its entry
--
-- This project's own.
use Rattle.std.proofs.Common.{◌≡◌, ℕ, List, Option, Some, None, map, slice_get}
use Rattle.std.specs.List.{slice_index_or}
use Rattle.aeth_base.specs.declared.ids.NiId.{NiId}
use Rattle.aeth_ni.specs.declared.write.Write.{Write}
use Rattle.aeth_ni.specs.declared.write.Write.TheVariants.{ClearSlot, ClearRoute, SetRoute, SetSlot}
use Rattle.aeth_ni.specs.Queue.{QueueState, finished, stopped, with_route, without_route}
use Rattle.aeth_router.specs.declared.part.Part.{Part}
use Rattle.aeth_router.specs.declared.part.Part.TheVariants.{Interface, Router, Stage, TableRouter}
use Rattle.aeth_components.specs.{declared.channel_state.ChannelEnd.ChannelEnd}
use Rattle.aeth_components.specs.{declared.event.Event.Event, declared.event.Event.TheVariants.Halt}
use Rattle.aeth_components.specs.{declared.event.Event.TheVariants.Finish}
use Rattle.aeth_components.specs.{declared.event.Event.TheVariants.Change, Changes.switched}
use Rattle.aeth_components.specs.{Wirings.wiring_of, View.HasQueue, View.HasSlot, View.queue_of}

-- The queue that an event changes, if it changes one.
abbrev pub write_end : Write → Option ChannelEnd
write_end (ClearSlot ni slot) = None
write_end (ClearRoute ni queue) = Some (record { ni = ni; queue = queue })
write_end (SetRoute ni queue route remote credits) = Some (record { ni = ni; queue = queue })
write_end (SetSlot ni slot queue) = None

abbrev pub event_end : Event → Option ChannelEnd
event_end (Halt end) = Some end
event_end (Finish end) = Some end
event_end (Change write) = write_end write

-- What it makes of it.
abbrev pub queue_written : Write → QueueState → QueueState
queue_written (ClearSlot ni slot) queue = queue
queue_written (ClearRoute ni number) queue = without_route queue
queue_written (SetRoute ni number route remote credits) queue =
    with_route (record { ports = route; remote = remote }) credits queue
queue_written (SetSlot ni slot number) queue = queue

abbrev pub queue_done : Event → QueueState → QueueState
queue_done (Halt end) queue = stopped queue
queue_done (Finish end) queue = finished queue
queue_done (Change write) queue = queue_written write queue

-- The event changes this queue.
pub record Touches (event : Event) (ni queue : ℕ) : Type 0 where
  pub end : ChannelEnd
  pub is : event_end event ≡ Some end
  pub at_ni : end.ni.0 ≡ ni
  pub at_queue : end.queue ≡ queue

-- What events do to one queue: nothing, where none changes it; what the one that changes it does.
pub record SwitchesAlone (events : List Event) (parts : List Part) : Type 0 where
  pub other : (ni queue : ℕ)
      → ((i : ℕ) (event : Event) → slice_get events i ≡ Some event → Touches event ni queue → ⊥)
      → queue_of (switched events parts) ni queue ≡ queue_of parts ni queue
  pub own : (i : ℕ) (event : Event) (end : ChannelEnd) → slice_get events i ≡ Some event
      → event_end event ≡ Some end → HasQueue (map wiring_of parts) end
      → ((j : ℕ) (other : Event) → slice_get events j ≡ Some other
      → Touches other end.ni.0 end.queue → j ≡ i)
      → queue_of (switched events parts) end.ni.0 end.queue
      ≡ queue_done event (queue_of parts end.ni.0 end.queue)

-- The entry of a slot of one of the components; none where there is none.
abbrev pub entry_in : ℕ → Option Part → Option ℕ
entry_in slot None = None
entry_in slot (Some (Interface ni)) = slice_index_or ni.entries slot None
entry_in slot (Some (Router router)) = None
entry_in slot (Some (TableRouter router)) = None
entry_in slot (Some (Stage stage)) = None

abbrev pub entry_of : List Part → ℕ → ℕ → Option ℕ
entry_of parts ni slot = entry_in slot (slice_get parts ni)

-- A write to a slot: the interface, the slot, and the entry from then on.
pub record SlotWrite : Type 0 where
  pub ni : NiId
  pub slot : ℕ
  pub entry : Option ℕ

abbrev pub slot_written : Write → Option SlotWrite
slot_written (ClearSlot ni slot) = Some (record { ni = ni; slot = slot; entry = None })
slot_written (ClearRoute ni queue) = None
slot_written (SetRoute ni queue route remote credits) = None
slot_written (SetSlot ni slot queue) = Some (record { ni = ni; slot = slot; entry = Some queue })

abbrev pub slot_write : Event → Option SlotWrite
slot_write (Halt end) = None
slot_write (Finish end) = None
slot_write (Change write) = slot_written write

-- The event writes this slot.
pub record Writes (event : Event) (ni slot : ℕ) : Type 0 where
  pub write : SlotWrite
  pub is : slot_write event ≡ Some write
  pub at_ni : write.ni.0 ≡ ni
  pub at_slot : write.slot ≡ slot

-- What events do to one entry: nothing, where none writes it; what the one that does writes.
pub record WritesAlone (events : List Event) (parts : List Part) : Type 0 where
  pub other : (ni slot : ℕ)
      → ((i : ℕ) (event : Event) → slice_get events i ≡ Some event → Writes event ni slot → ⊥)
      → entry_of (switched events parts) ni slot ≡ entry_of parts ni slot
  pub own : (i : ℕ) (event : Event) (write : SlotWrite) → slice_get events i ≡ Some event
      → slot_write event ≡ Some write → HasSlot (map wiring_of parts) write.ni.0 write.slot
      → ((j : ℕ) (other : Event) → slice_get events j ≡ Some other
      → Writes other write.ni.0 write.slot → j ≡ i)
      → entry_of (switched events parts) write.ni.0 write.slot ≡ write.entry
