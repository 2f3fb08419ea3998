-- Which interfaces may send in a slot: the entries of tables, what events note of them, and that those that send are marked.
use Rattle.std.proofs.Common.{ℕ, zero, suc, ◌≡◌, ◌≢◌, ◌<◌, ◌≤◌, ◌+◌, ◌%◌, ◌∙◌, refl, sym, ap, arith}
use Rattle.std.proofs.Common.{inl, inr, List, [], ◌∷◌, length, map, Option, Some, None, slice_get}
use Rattle.std.proofs.Common.{true, is_some, length-set, subst, ◌⊎◌}
use Rattle.std.proofs.lemmas.{Bool.cases_eq, Bool.cases_lt, List.get_or_default, List.get_or_past}
use Rattle.std.proofs.lemmas.{List.length-map, Option.get_or_from_slice_get, Option.same_Some}
use Rattle.std.specs.List.{slice_index_or}
use Rattle.aeth_base.specs.{Limits.max_slots, Marks.bit_of, Marks.room_of}
use Rattle.aeth_base.proofs.Lists.{map-at}
use Rattle.aeth_ni.specs.{Component.emitted_by, Interface.InterfaceState, Interface.queue_at}
use Rattle.aeth_ni.specs.{Queue.QueueState, Sending.emitted, Writes.addressee, Writes.written}
use Rattle.aeth_ni.specs.{declared.write.Write.Write, declared.write.Write.TheVariants.ClearSlot}
use Rattle.aeth_ni.specs.{declared.write.Write.TheVariants.ClearRoute}
use Rattle.aeth_ni.specs.{declared.write.Write.TheVariants.SetRoute}
use Rattle.aeth_ni.specs.{declared.write.Write.TheVariants.SetSlot}
use Rattle.aeth_router.specs.declared.part.Part.{Part}
use Rattle.aeth_router.specs.declared.part.Part.TheVariants.{Interface, Router, Stage, TableRouter}
use Rattle.aeth_components.specs.declared.event.Event.{Event}
use Rattle.aeth_components.specs.declared.event.Event.TheVariants.{Halt, Finish, Change}
use Rattle.aeth_components.specs.declared.injecting.Injecting.{Injecting}
use Rattle.aeth_components.specs.declared.channel_state.ChannelEnd.{ChannelEnd}
use Rattle.aeth_components.specs.Changes.{event_done, happened, on_interface, with_part}
use Rattle.aeth_components.specs.Events.{IsDoable, event_part}
use Rattle.aeth_components.specs.Wirings.{Wiring}
use Rattle.aeth_components.specs.Injecting.{AreEntered, AreInjecting, HasPlaces, IsEntered}
use Rattle.aeth_components.specs.Injecting.{NotesEvent, entries_of, entry_at, may_send, table_at}
use Rattle.aeth_components.specs.SlotMarks.{MarksMore, marks_at}
use Rattle.aeth_components.specs.Switching.{SlotWrite, Touches, Writes, entry_of, event_end}
use Rattle.aeth_components.specs.Switching.{slot_write, slot_written, write_end}
use Rattle.aeth_components.specs.FlitsOnWires.{sends_own}
use Rattle.aeth_components.specs.View.{queue_in}
use Rattle.aeth_components.proofs.PartLemmas.{length-with_part}
use Rattle.aeth_components.proofs.SlotLemmas.{entry_of-happened_other, entry_of-happened_own}
use Rattle.aeth_components.proofs.SwitchingLemmas.{queue_of-happened_other}

-- There are places for fewer components too, and as many once no room has changed.
pub HasPlaces-fewer : (count fewer : ℕ) (injecting : Injecting) → fewer ≤ count
    → HasPlaces count injecting → HasPlaces fewer injecting
HasPlaces-fewer count fewer injecting less places = record {
  some = places.some;
  most = places.most;
  room = λ slot default below. (let room = places.room slot default below in omega (arith, room, less));
  entries = (let entries = places.entries in omega (arith, entries, less));
  few = (let few = places.few in omega (arith, few, less));
}

pub HasPlaces-moved : (count : ℕ) (old new : Injecting) → HasPlaces count old
    → length new.slots ≡ length old.slots
    → ((slot : ℕ) → room_of (marks_at new.slots slot) ≡ room_of (marks_at old.slots slot))
    → room_of new.entries ≡ room_of old.entries → HasPlaces count new
HasPlaces-moved count old new places size room entries = record {
  some = (let some = places.some in omega (arith, some, size));
  most = (let most = places.most in omega (arith, most, size));
  room = λ slot default below.
      let before = places.room slot [] (omega (arith, size, below)) in
      let same = room slot in
      let read = ap room_of (get_or_default new.slots slot default [] below) in
      omega (arith, before, same, read);
  entries = (let before = places.entries in omega (arith, before, entries));
  few = places.few;
}

-- There is one for each component.
pub HasPlaces-part : (parts : List Part) (number : ℕ) (injecting : Injecting)
    → AreInjecting parts injecting → number < length parts → HasPlaces (number + 1) injecting
HasPlaces-part parts number injecting are within =
    let tables = length-map parts entries_of in
    HasPlaces-fewer (length (map entries_of parts)) (number + 1) injecting
    (omega (arith, within, tables)) are.tables.places

-- So there is for that of an event.
pub HasPlaces-event : {event : Event} {wirings : List Wiring} (parts : List Part)
    (injecting : Injecting)
    → IsDoable wirings event → length wirings ≡ length parts → AreInjecting parts injecting
    → HasPlaces (event_part event + 1) injecting
HasPlaces-event {event} parts injecting doable count are =
    let part = doable.part in
    HasPlaces-part parts (event_part event) injecting are (omega (arith, part, count))

-- The entry of a table is that of its component.
pub entry_at-parts : (parts : List Part) (ni slot : ℕ)
    → entry_at (map entries_of parts) ni slot ≡ entry_of parts ni slot
entry_at-parts [] ni slot = refl
entry_at-parts (Interface ni ∷ parts) zero slot = refl
entry_at-parts (Router router ∷ parts) zero slot = refl
entry_at-parts (TableRouter router ∷ parts) zero slot = refl
entry_at-parts (Stage stage ∷ parts) zero slot = refl
entry_at-parts (part ∷ parts) (suc ni) slot = entry_at-parts parts ni slot

pub table_at-parts : (parts : List Part) (number : ℕ) (part : Part)
    → slice_get parts number ≡ Some part → table_at (map entries_of parts) number ≡ entries_of part
table_at-parts parts number part at =
    get_or_from_slice_get (map entries_of parts) number (entries_of part) []
    (map-at entries_of parts number part at)

-- A slot with an entry is one of the table.
pub entry-within : (table : List (Option ℕ)) (slot queue : ℕ)
    → slice_index_or table slot None ≡ Some queue → slot < length table
entry-within table slot queue is =
    elim (cases_lt slot (length table)) [
      | inl within ↦ within
      | inr past ↦ absurd (cc (sym (get_or_past table slot None past) ∙ is))
    ]

-- An event keeps how long each table is.
length-written : (write : Write) (ni : InterfaceState)
    → length (entries_of (Interface (written write ni))) ≡ length (entries_of (Interface ni))
length-written (ClearSlot to slot) ni = length-set ni.entries slot None
length-written (ClearRoute to queue) ni = refl
length-written (SetRoute to queue route remote credits) ni = refl
length-written (SetSlot to slot queue) ni = length-set ni.entries slot (Some queue)

length-done : (event : Event) (part : Part)
    → length (entries_of (on_interface (event_done event) part)) ≡ length (entries_of part)
length-done event (Router router) = refl
length-done event (TableRouter router) = refl
length-done event (Stage stage) = refl
length-done (Halt end) (Interface ni) = refl
length-done (Finish end) (Interface ni) = refl
length-done (Change write) (Interface ni) = length-written write ni

length-tables : (change : Part → Part)
    → ((part : Part) → length (entries_of (change part)) ≡ length (entries_of part))
    → (parts : List Part) (number other : ℕ)
    → length (table_at (map entries_of (with_part number change parts)) other)
    ≡ length (table_at (map entries_of parts) other)
length-tables change kept [] number other = refl
length-tables change kept (part ∷ parts) zero zero = kept part
length-tables change kept (part ∷ parts) zero (suc other) = refl
length-tables change kept (part ∷ parts) (suc number) zero = refl
length-tables change kept (part ∷ parts) (suc number) (suc other) =
    length-tables change kept parts number other

-- An event writes a slot of its own component.
written-part : (write : Write) (slot : SlotWrite) → slot_written write ≡ Some slot
    → slot.ni.0 ≡ (addressee write).0
written-part (ClearSlot to slot) found is = sym (ap (λ (w : SlotWrite). w.ni.0) (same_Some _ found is))
written-part (ClearRoute to queue) found is = absurd (cc is)
written-part (SetRoute to queue route remote credits) found is = absurd (cc is)
written-part (SetSlot to slot queue) found is =
    sym (ap (λ (w : SlotWrite). w.ni.0) (same_Some _ found is))

writes-part : (event : Event) (slot : SlotWrite) → slot_write event ≡ Some slot
    → slot.ni.0 ≡ event_part event
writes-part (Halt end) slot is = absurd (cc is)
writes-part (Finish end) slot is = absurd (cc is)
writes-part (Change write) slot is = written-part write slot is

-- And it changes a queue of its own component.
written-end : (write : Write) (end : ChannelEnd) → write_end write ≡ Some end
    → end.ni.0 ≡ (addressee write).0
written-end (ClearSlot to slot) end is = absurd (cc is)
written-end (ClearRoute to queue) end is =
    sym (ap (λ (some : ChannelEnd). some.ni.0) (same_Some _ end is))
written-end (SetRoute to queue route remote credits) end is =
    sym (ap (λ (some : ChannelEnd). some.ni.0) (same_Some _ end is))
written-end (SetSlot to slot queue) end is = absurd (cc is)

ends-part : (event : Event) (end : ChannelEnd) → event_end event ≡ Some end
    → end.ni.0 ≡ event_part event
ends-part (Halt own) end is = sym (ap (λ (some : ChannelEnd). some.ni.0) (same_Some own end is))
ends-part (Finish own) end is = sym (ap (λ (some : ChannelEnd). some.ni.0) (same_Some own end is))
ends-part (Change write) end is = written-end write end is

-- An interface that sends has an entry for the slot of the cycle, whose queue has something to send.
queue-sends : (entry : Option ℕ) (queues : List QueueState) → is_some (emitted_by entry queues) ≡ true
    → (queue : ℕ) × (entry ≡ Some queue) × (is_some (emitted (queue_at queues queue)) ≡ true)
queue-sends None queues sends = absurd (cc sends)
queue-sends (Some queue) queues sends = (queue, refl, sends)

-- What a component sends is of the queue that its table has in that slot.
pub entry-sends : (cycle : ℕ) (part : Part) → sends_own cycle part ≡ true → (queue : ℕ)
    × (slice_index_or (entries_of part) (cycle % length (entries_of part)) None ≡ Some queue)
    × (is_some (emitted (queue_in queue (Some part))) ≡ true)
entry-sends cycle (Interface ni) sends =
    queue-sends (slice_index_or ni.entries (cycle % length ni.entries) None) ni.queues sends
entry-sends cycle (Router router) sends = absurd (cc sends)
entry-sends cycle (TableRouter router) sends = absurd (cc sends)
entry-sends cycle (Stage stage) sends = absurd (cc sends)

-- One whose entry for the slot names such a queue sends.
sends-queue : (entry : Option ℕ) (queues : List QueueState) (queue : ℕ) → entry ≡ Some queue
    → is_some (emitted (queue_at queues queue)) ≡ true → is_some (emitted_by entry queues) ≡ true
sends-queue None queues queue is some = absurd (cc is)
sends-queue (Some other) queues queue is some =
    ap (λ n. is_some (emitted (queue_at queues n))) (same_Some other queue is) ∙ some

pub sends-entry : (cycle slot : ℕ) (part : Part) (queue : ℕ)
    → (0 < length (entries_of part) → cycle % length (entries_of part) ≡ slot)
    → slice_index_or (entries_of part) slot None ≡ Some queue
    → is_some (emitted (queue_in queue (Some part))) ≡ true → sends_own cycle part ≡ true
sends-entry cycle slot (Interface ni) queue own is some =
    let within = entry-within ni.entries slot queue is in
    sends-queue (slice_index_or ni.entries (cycle % length ni.entries) None) ni.queues queue
    (ap (λ n. slice_index_or ni.entries n None) (own (omega (arith, within))) ∙ is) some
sends-entry cycle slot (Router router) queue own is some = absurd (cc is)
sends-entry cycle slot (TableRouter router) queue own is some = absurd (cc is)
sends-entry cycle slot (Stage stage) queue own is some = absurd (cc is)

-- No mark has come.
pub MarksMore-none : (number : ℕ) (slots : List (List ℕ)) → MarksMore number slots slots
MarksMore-none number slots = record {
  size = refl;
  room = λ slot. refl;
  kept = λ other slot bit. bit;
  below = λ other slot bit. inl bit;
}

-- Whether an event writes a slot, and whether it changes a queue.
by-write : {Goal : Type 0} (event : Event) (number slot : ℕ) (found : Option SlotWrite)
    → slot_write event ≡ found
    → ((write : SlotWrite) → slot_write event ≡ Some write → number ≡ write.ni.0 → slot ≡ write.slot → Goal)
    → ((Writes event number slot → ⊥) → Goal) → Goal
by-write event number slot None is own other = other (λ writes. cc (sym is ∙ writes.is))
by-write event number slot (Some write) is own other =
    let same = λ (writes : Writes event number slot). same_Some writes.write write (sym writes.is ∙ is) in
    elim (cases_eq number write.ni.0) [
      | inr apart ↦
          other (λ writes. apart (sym writes.at_ni ∙ ap (λ (some : SlotWrite). some.ni.0) (same writes)))
      | inl there ↦ elim (cases_eq slot write.slot) [
        | inr apart ↦
            other (λ writes. apart (sym writes.at_slot ∙ ap (λ (some : SlotWrite). some.slot) (same writes)))
        | inl here ↦ own write is there here
      ]
    ]

by-end : {Goal : Type 0} (event : Event) (number queue : ℕ) (found : Option ChannelEnd)
    → event_end event ≡ found
    → ((end : ChannelEnd) → event_end event ≡ Some end → number ≡ end.ni.0 → queue ≡ end.queue → Goal)
    → ((Touches event number queue → ⊥) → Goal) → Goal
by-end event number queue None is own other = other (λ touches. cc (sym is ∙ touches.is))
by-end event number queue (Some end) is own other =
    let same = λ (touches : Touches event number queue). same_Some touches.end end (sym touches.is ∙ is) in
    elim (cases_eq number end.ni.0) [
      | inr apart ↦
          other (λ touches. apart (sym touches.at_ni ∙ ap (λ (some : ChannelEnd). some.ni.0) (same touches)))
      | inl there ↦ elim (cases_eq queue end.queue) [
        | inr apart ↦
            other (λ touches. apart (sym touches.at_queue ∙ ap (λ (some : ChannelEnd). some.queue) (same touches)))
        | inl here ↦ own end is there here
      ]
    ]

-- A slot with an entry is one of those that there are, and the entry is noted.
module _ (parts : List Part) (injecting : Injecting) (are : AreEntered (map entries_of parts) injecting)
    (number slot queue : ℕ) (is : entry_of parts number slot ≡ Some queue) where
  pub entry-below : slot < length injecting.slots
  entry-below =
      let table = table_at (map entries_of parts) number in
      let within : slot < length table = entry-within table slot queue (entry_at-parts parts number slot ∙ is) in
      let size = are.size number (omega (arith, within)) in
      omega (arith, within, size)

  pub entry-noted : IsEntered injecting number queue slot
  entry-noted = are.entered number slot queue (entry_at-parts parts number slot ∙ is)

-- An event is done and noted, and so its component stands.
module _ (event : Event) (parts : List Part) (part : Part) (old new : Injecting)
    (notes : NotesEvent part event old new) (are : AreInjecting parts old)
    (at : slice_get (happened parts event) (event_part event) ≡ Some part) where
  -- What the component has to send is seen of it.
  seen-sends : (number queue : ℕ) → number ≡ event_part event
      → may_send (happened parts event) number queue ≡ true
      → is_some (emitted (queue_in queue (Some part))) ≡ true
  seen-sends number queue own sends =
      ap (λ (found : Option Part). is_some (emitted (queue_in queue found)))
      (sym (ap (slice_get (happened parts event)) own ∙ at)) ∙ sends

  -- As many tables are there as before.
  count-happened : length (map entries_of (happened parts event)) ≡ length (map entries_of parts)
  count-happened =
      length-map (happened parts event) entries_of
      ∙ length-with_part (event_part event) (on_interface (event_done event)) parts
      ∙ sym (length-map parts entries_of)

  size-happened : (number : ℕ) → 0 < length (table_at (map entries_of (happened parts event)) number)
      → length (table_at (map entries_of (happened parts event)) number) ≡ length old.slots
  size-happened number some =
      let same = length-tables (on_interface (event_done event)) (length-done event) parts
      (event_part event) number in
      same ∙ are.tables.size number (omega (arith, same, some))

  below-happened : (number slot queue : ℕ) → entry_of (happened parts event) number slot ≡ Some queue
      → slot < length old.slots
  below-happened number slot queue is =
      let table = table_at (map entries_of (happened parts event)) number in
      let within : slot < length table =
      entry-within table slot queue (entry_at-parts (happened parts event) number slot ∙ is) in
      let size = size-happened number (omega (arith, within)) in
      omega (arith, within, size)

  -- The entry that it writes, and any other.
  own-happened : (number slot queue : ℕ) → entry_of (happened parts event) number slot ≡ Some queue
      → (write : SlotWrite) → slot_write event ≡ Some write → number ≡ write.ni.0 → slot ≡ write.slot
      → IsEntered new number queue slot
  own-happened number slot queue is write writes there here =
      let within = below-happened number slot queue is in
      rw (there, here) (notes.written write queue writes
      (entry_of-happened_own parts event write queue writes (rw (there, here) at is))
      (omega (arith, within, here)))

  own-marked : (number slot queue : ℕ) → entry_of (happened parts event) number slot ≡ Some queue
      → may_send (happened parts event) number queue ≡ true
      → (write : SlotWrite) → slot_write event ≡ Some write → number ≡ write.ni.0 → slot ≡ write.slot
      → bit_of (marks_at new.slots slot) number ≡ 1
  own-marked number slot queue is sends write writes there here =
      let within = below-happened number slot queue is in
      let has = seen-sends number queue (there ∙ writes-part event write writes) sends in
      rw (there, here) (notes.marked write queue writes
      (entry_of-happened_own parts event write queue writes (rw (there, here) at is))
      (omega (arith, within, here)) has)

  entered-happened : (number slot queue : ℕ) → entry_of (happened parts event) number slot ≡ Some queue
      → IsEntered new number queue slot
  entered-happened number slot queue is =
      by-write event number slot (slot_write event) refl
      (λ write writes there here. own-happened number slot queue is write writes there here)
      (λ none. notes.kept number slot queue (below-happened number slot queue is) none
      (entry-noted parts old are.tables number slot queue
      (sym (entry_of-happened_other parts event number slot none) ∙ is)))

  -- The queue that it changes is marked active, and any other is as it was.
  marked-kept : (number slot queue : ℕ) → entry_of parts number slot ≡ Some queue
      → may_send (happened parts event) number queue ≡ true
      → bit_of (marks_at new.slots slot) number ≡ 1
  marked-kept number slot queue is sends =
      by-end event number queue (event_end event) refl
      (λ end ends there here.
      let has = seen-sends number queue (there ∙ ends-part event end ends) sends in
      rw there (notes.marked_active end slot ends
      (entry-below parts old are.tables number slot queue is)
      (subst (λ n. is_some (emitted (queue_in n (Some part))) ≡ true) here has)
      (rw (there, here) at (entry-noted parts old are.tables number slot queue is))))
      (λ none. notes.more.kept number slot (are.marked number slot queue is
      (ap (λ (state : QueueState). is_some (emitted state))
      (sym (queue_of-happened_other parts event number queue none)) ∙ sends)))

  marked-happened : (number slot queue : ℕ) → entry_of (happened parts event) number slot ≡ Some queue
      → may_send (happened parts event) number queue ≡ true
      → bit_of (marks_at new.slots slot) number ≡ 1
  marked-happened number slot queue is sends =
      by-write event number slot (slot_write event) refl
      (λ write writes there here. own-marked number slot queue is sends write writes there here)
      (λ none. marked-kept number slot queue
      (sym (entry_of-happened_other parts event number slot none) ∙ is) sends)

  pub AreInjecting-happened : event_part event < length parts → AreInjecting (happened parts event) new
  AreInjecting-happened within = record {
    tables = record {
      places = rw count-happened (HasPlaces-moved (length (map entries_of parts)) old new
          are.tables.places notes.more.size notes.more.room notes.room);
      size = λ number some. size-happened number some ∙ sym notes.more.size;
      entered = λ number slot queue is. entered-happened number slot queue
          (sym (entry_at-parts (happened parts event) number slot) ∙ is);
      below = λ number slot bit.
          let count = count-happened in
          let size = length-map parts entries_of in
          elim (notes.more.below number slot bit) [
            | inl was ↦ (let below = are.tables.below number slot was in omega (arith, below, count))
            | inr own ↦ omega (arith, own, within, count, size)
          ];
    };
    marked = marked-happened;
  }

-- So an event is noted that clears an entry.
pub NotesEvent-cleared : (part : Part) (event : Event) (write : SlotWrite) (old new : Injecting)
    → slot_write event ≡ Some write → event_end event ≡ None
    → length old.slots ≤ max_slots
    → new.slots ≡ old.slots → room_of new.entries ≡ room_of old.entries → write.entry ≡ None
    → ((other at queue : ℕ) → at < max_slots → (other ≢ write.ni.0) ⊎ (at ≢ write.slot)
    → IsEntered old other queue at → IsEntered new other queue at)
    → NotesEvent part event old new
NotesEvent-cleared part event write old new writes none most slots room cleared kept = record {
  more = rw slots (MarksMore-none (event_part event) old.slots);
  room = room;
  written = λ found queue is entry below.
      absurd (cc (sym cleared ∙ ap (λ (some : SlotWrite). some.entry) (same_Some write found (sym writes ∙ is)) ∙ entry));
  marked = λ found queue is entry below has.
      absurd (cc (sym cleared ∙ ap (λ (some : SlotWrite). some.entry) (same_Some write found (sym writes ∙ is)) ∙ entry));
  marked_active = λ end slot is below has entered. absurd (cc (sym none ∙ is));
  kept = λ number slot queue below apart entered. kept number slot queue (omega (arith, below, most))
      (elim (cases_eq number write.ni.0) [
        | inr away ↦ inl away
        | inl there ↦ elim (cases_eq slot write.slot) [
          | inr away ↦ inr away
          | inl here ↦
              absurd (apart (record { write = write; is = writes; at_ni = sym there; at_slot = sym here }))
        ]
      ]) entered;
}
