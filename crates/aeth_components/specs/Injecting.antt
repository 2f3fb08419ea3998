-- Which interfaces may send in a slot, as marks of their numbers for each slot, and the slots of each queue, as marks too.
-- An interface is marked in the slots of a queue once words come to it, or credits, or an event, and no more once it is
-- seen to send nothing in a slot. The next cycle in which an interface sends is found by these marks.
--
--   entries_of, table_at, entry_at     the slot tables of components, and one entry
--   place_of_entry, IsEntered     the mark of a queue's entry for a slot
--   HasPlaces, AreEntered     that there are marks for all components, and for each entry
--   may_send, AreInjecting     each interface is marked in the slots in which it may send
--   MarksQueueActive, NotesEvent what marks a queue as active, and what an event changes of the marks
--   queue_told, IsTold, MarksToldActive the queue to which a flit comes, and that it is marked active
--
-- This project's own.
use Rattle.std.proofs.Common.{◌≡◌, ◌<◌, ◌≤◌, ◌+◌, ◌*◌, ◌%◌, ◌^◌, ℕ, List, [], length, All, Bool}
use Rattle.std.proofs.Common.{Option, Some, None, is_some, map, option_map, true}
use Rattle.std.specs.List.{slice_index_or}
use Rattle.aeth_base.specs.{Limits.max_slots, Marks.bit_of, Marks.room_of}
use Rattle.aeth_clocked.specs.declared.flit.Flit.{Flit}
use Rattle.aeth_ni.specs.{Component.arrival_of, Component.last_of, Limits.queues_of_interface}
use Rattle.aeth_ni.specs.{Sending.emitted}
use Rattle.aeth_router.specs.declared.part.Part.{Part}
use Rattle.aeth_router.specs.declared.part.Part.TheVariants.{Interface, Router, Stage, TableRouter}
use Rattle.aeth_components.specs.declared.{event.Event.Event, injecting.Injecting.Injecting}
use Rattle.aeth_components.specs.declared.{channel_state.ChannelEnd.ChannelEnd}
use Rattle.aeth_components.specs.Events.{event_part}
use Rattle.aeth_components.specs.Switching.{SlotWrite, Writes, entry_of, event_end, slot_write}
use Rattle.aeth_components.specs.SlotMarks.{MarksMore, marks_at}
use Rattle.aeth_components.specs.View.{queue_in, queue_of}

-- The slot table of an interface; a router or a stage has none.
abbrev pub entries_of : Part → List (Option ℕ)
entries_of (Interface ni) = ni.entries
entries_of (Router router) = []
entries_of (TableRouter router) = []
entries_of (Stage stage) = []

-- The table of a number, and its entry for a slot; none where there is none.
abbrev pub table_at : List (List (Option ℕ)) → ℕ → List (Option ℕ)
table_at tables number = slice_index_or tables number []

abbrev pub entry_at : List (List (Option ℕ)) → ℕ → ℕ → Option ℕ
entry_at tables number slot = slice_index_or (table_at tables number) slot None

-- The place of a queue's entry for a slot among the marks of entries.
abbrev pub place_of_entry : ℕ → ℕ → ℕ → ℕ
place_of_entry number queue slot =
    max_slots * (queues_of_interface * number + queue % queues_of_interface) + slot

-- A queue of a component is noted to have the entry for a slot.
abbrev pub IsEntered : Injecting → ℕ → ℕ → ℕ → Type 0
IsEntered injecting number queue slot =
    bit_of injecting.entries (place_of_entry number queue slot) ≡ 1

-- There is a mark for the components below a count in each slot, and one for each of their entries.
pub record HasPlaces (count : ℕ) (injecting : Injecting) : Type 0 where
  pub some : 0 < length injecting.slots
  pub most : length injecting.slots ≤ max_slots
  pub room : All (λ marks. count < room_of marks) injecting.slots
  pub entries : max_slots * (queues_of_interface * count) < room_of injecting.entries
  pub few : count < 2 ^ 32

-- There are as many slots as in each table that isn't empty. Each entry is noted, and just numbers of tables are
-- marked.
pub record AreEntered (tables : List (List (Option ℕ))) (injecting : Injecting) : Type 0 where
  pub places : HasPlaces (length tables) injecting
  pub size : (number : ℕ) → 0 < length (table_at tables number)
      → length (table_at tables number) ≡ length injecting.slots
  pub entered : (number slot queue : ℕ) → entry_at tables number slot ≡ Some queue
      → IsEntered injecting number queue slot
  pub below : (number slot : ℕ) → bit_of (marks_at injecting.slots slot) number ≡ 1
      → number < length tables

-- Whether a queue of one of the components has something to send.
abbrev pub may_send : List Part → ℕ → ℕ → Bool
may_send parts number queue = is_some (emitted (queue_of parts number queue))

-- So a number is marked in each slot whose entry names a queue that has something to send.
pub record AreInjecting (parts : List Part) (injecting : Injecting) : Type 0 where
  pub tables : AreEntered (map entries_of parts) injecting
  pub marked : (number slot queue : ℕ) → entry_of parts number slot ≡ Some queue
      → may_send parts number queue ≡ true → bit_of (marks_at injecting.slots slot) number ≡ 1

-- A component is marked in each slot of one of its queues.
pub record MarksQueueActive (number queue : ℕ) (old new : Injecting) : Type 0 where
  pub more : MarksMore number old.slots new.slots
  pub entries : new.entries ≡ old.entries
  pub own : (slot : ℕ) → slot < length old.slots → IsEntered old number queue slot
      → bit_of (marks_at new.slots slot) number ≡ 1

-- The queue of a component to which a flit comes; none of a router or a stage.
abbrev pub queue_told : Flit → Part → Option ℕ
queue_told flit (Interface ni) = option_map (λ last. last.0) (last_of (arrival_of (Some flit)))
queue_told flit (Router router) = None
queue_told flit (TableRouter router) = None
queue_told flit (Stage stage) = None

-- Such a queue is told, where it has something to send once the flit has come.
abbrev pub IsTold : Flit → Part → Part → Option ℕ → Type 0
IsTold flit old new told = (queue : ℕ) → queue_told flit old ≡ Some queue
    → is_some (emitted (queue_in queue (Some new))) ≡ true → told ≡ Some queue

-- A queue that is told is marked active.
abbrev pub MarksToldActive : ℕ → Option ℕ → Injecting → Injecting → Type 0
MarksToldActive number None old new = new ≡ old
MarksToldActive number (Some queue) old new = MarksQueueActive number queue old new

-- The entry that an event writes is noted. Its component is marked there, and in each slot of the queue that the event
-- changes, where the queue has something to send then. Of other entries none is gone.
pub record NotesEvent (part : Part) (event : Event) (old new : Injecting) : Type 0 where
  pub more : MarksMore (event_part event) old.slots new.slots
  pub room : room_of new.entries ≡ room_of old.entries
  pub written : (write : SlotWrite) (queue : ℕ) → slot_write event ≡ Some write
      → write.entry ≡ Some queue → write.slot < length old.slots
      → IsEntered new write.ni.0 queue write.slot
  pub marked : (write : SlotWrite) (queue : ℕ) → slot_write event ≡ Some write
      → write.entry ≡ Some queue → write.slot < length old.slots
      → is_some (emitted (queue_in queue (Some part))) ≡ true
      → bit_of (marks_at new.slots write.slot) write.ni.0 ≡ 1
  pub marked_active : (end : ChannelEnd) (slot : ℕ) → event_end event ≡ Some end
      → slot < length old.slots → is_some (emitted (queue_in end.queue (Some part))) ≡ true
      → IsEntered old end.ni.0 end.queue slot
      → bit_of (marks_at new.slots slot) end.ni.0 ≡ 1
  pub kept : (number slot queue : ℕ) → slot < length old.slots
      → (Writes event number slot → ⊥) → IsEntered old number queue slot
      → IsEntered new number queue slot
