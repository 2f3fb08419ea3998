-- What the events of a cycle do to one entry of a slot table.
use Rattle.std.proofs.Common.{ℕ, zero, suc, ◌≡◌, ◌≢◌, refl, sym, ◌∙◌, ap, subst, inl, inr, arith}
use Rattle.std.proofs.Common.{length, List, [], ◌∷◌, Some, None, map, set, slice_get, length-set}
use Rattle.std.proofs.Common.{get_or-set_other, get_or-set_same}
use Rattle.std.proofs.lemmas.{Bool.cases_eq, Bool.cases_lt, List.get_or_past, Option.same_Some}
use Rattle.aeth_base.specs.declared.ids.{LinkId.LinkId, NiId.NiId}
use Rattle.aeth_ni.specs.declared.write.Write.TheVariants.{ClearSlot, ClearRoute, SetRoute, SetSlot}
use Rattle.aeth_ni.specs.Interface.{InterfaceState}
use Rattle.aeth_router.specs.declared.part.Part.{Part}
use Rattle.aeth_router.specs.declared.part.Part.TheVariants.{Interface, Router, Stage, TableRouter}
use Rattle.aeth_components.specs.declared.event.Event.{Event}
use Rattle.aeth_components.specs.declared.event.Event.TheVariants.{Halt, Finish, Change}
use Rattle.aeth_components.specs.Changes.{event_done, happened, on_interface, switched, with_part}
use Rattle.aeth_components.specs.Wirings.{Wiring, InterfaceWiring, wiring_of}
use Rattle.aeth_components.specs.Switching.{SlotWrite, Writes, WritesAlone, entry_in, entry_of}
use Rattle.aeth_components.specs.Switching.{slot_write}
use Rattle.aeth_components.specs.View.{HasSlot}
use Rattle.aeth_components.proofs.AloneLemmas.{interface-at, slice_get-with_part_other}
use Rattle.aeth_components.proofs.AloneLemmas.{slice_get-with_part_same}
use Rattle.aeth_components.proofs.PartLemmas.{wirings-happened}

-- One entry of an interface is written.
abbrev with_entry : SlotWrite → InterfaceState → InterfaceState
with_entry write ni = record ni { entries = set ni.entries write.slot write.entry }

-- A change that keeps the entries of an interface changes no entry.
entry_of-kept : (parts : List Part) (number : ℕ) (change : InterfaceState → InterfaceState)
    → ((ni : InterfaceState) → (change ni).entries ≡ ni.entries) → (ni slot : ℕ)
    → entry_of (with_part number (on_interface change) parts) ni slot ≡ entry_of parts ni slot
entry_of-kept [] number change kept ni slot = refl
entry_of-kept (Interface state ∷ parts) zero change kept zero slot = rw (kept state) refl
entry_of-kept (Router router ∷ parts) zero change kept zero slot = refl
entry_of-kept (TableRouter router ∷ parts) zero change kept zero slot = refl
entry_of-kept (Stage stage ∷ parts) zero change kept zero slot = refl
entry_of-kept (part ∷ parts) zero change kept (suc ni) slot = refl
entry_of-kept (part ∷ parts) (suc number) change kept zero slot = refl
entry_of-kept (part ∷ parts) (suc number) change kept (suc ni) slot =
    entry_of-kept parts number change kept ni slot

-- A write to one slot changes no other.
entry_in-other : (part : Part) (write : SlotWrite) (slot : ℕ) → slot ≢ write.slot
    → entry_in slot (Some (on_interface (with_entry write) part)) ≡ entry_in slot (Some part)
entry_in-other (Interface ni) write slot apart =
    get_or-set_other ni.entries write.slot slot write.entry None apart
entry_in-other (Router router) write slot apart = refl
entry_in-other (TableRouter router) write slot apart = refl
entry_in-other (Stage stage) write slot apart = refl

entry_of-same_part : (parts : List Part) (number slot : ℕ) (write : SlotWrite)
    → slot ≢ write.slot
    → entry_in slot (slice_get (with_part number (on_interface (with_entry write)) parts) number)
    ≡ entry_in slot (slice_get parts number)
entry_of-same_part [] number slot write apart = refl
entry_of-same_part (part ∷ parts) zero slot write apart = entry_in-other part write slot apart
entry_of-same_part (part ∷ parts) (suc number) slot write apart =
    entry_of-same_part parts number slot write apart

entry_of-write_other : (parts : List Part) (write : SlotWrite) (ni slot : ℕ)
    → ((ni ≡ write.ni.0) × (slot ≡ write.slot) → ⊥)
    → entry_of (with_part write.ni.0 (on_interface (with_entry write)) parts) ni slot
    ≡ entry_of parts ni slot
entry_of-write_other parts write ni slot apart =
    elim (cases_eq ni write.ni.0) [
      | inl same ↦
          subst (λ n. entry_of (with_part write.ni.0 (on_interface (with_entry write)) parts) n slot
          ≡ entry_of parts n slot) (sym same)
          (entry_of-same_part parts write.ni.0 slot write (λ there. apart (same, there)))
      | inr other ↦
          ap (entry_in slot) (slice_get-with_part_other parts write.ni.0 ni
          (on_interface (with_entry write)) other)
    ]

-- It changes its own.
slots-in : (part : Part) (number : NiId) (leaving entering : LinkId) (slots queues : ℕ)
    → wiring_of part ≡ InterfaceWiring number leaving entering slots queues
    → (ni : InterfaceState) × (part ≡ Interface ni) × (length ni.entries ≡ slots)
slots-in (Interface ni) number leaving entering slots queues is = (ni, refl, cc)
slots-in (Router router) number leaving entering slots queues is = absurd cc
slots-in (TableRouter router) number leaving entering slots queues is = absurd cc
slots-in (Stage stage) number leaving entering slots queues is = absurd cc

entry_of-write_same : (parts : List Part) (write : SlotWrite)
    → HasSlot (map wiring_of parts) write.ni.0 write.slot
    → entry_of (with_part write.ni.0 (on_interface (with_entry write)) parts) write.ni.0 write.slot
    ≡ write.entry
entry_of-write_same parts write has =
    let found = interface-at parts write.ni.0
    (InterfaceWiring has.number has.leaving has.entering has.slots has.queues) has.face in
    let face = slots-in found.0 has.number has.leaving has.entering has.slots has.queues found.2 in
    let there : slice_get parts write.ni.0 ≡ Some (Interface face.0) =
    found.1 ∙ ap (λ (part : Part). Some part) face.1 in
    let within = has.within in
    let size = face.2 in
    ap (entry_in write.slot) (slice_get-with_part_same parts write.ni.0
    (on_interface (with_entry write)) (Interface face.0) there)
    ∙ get_or-set_same face.0.entries write.slot write.entry None (omega arith)

-- What one event does to an entry that it doesn't write.
written-other : (parts : List Part) (write : SlotWrite) (event : Event) (ni slot : ℕ)
    → slot_write event ≡ Some write → (Writes event ni slot → ⊥)
    → entry_of (with_part write.ni.0 (on_interface (with_entry write)) parts) ni slot
    ≡ entry_of parts ni slot
written-other parts write event ni slot is none =
    entry_of-write_other parts write ni slot
    (λ at. none (record { write = write; is = is; at_ni = sym at.0; at_slot = sym at.1 }))

pub entry_of-happened_other : (parts : List Part) (event : Event) (ni slot : ℕ)
    → (Writes event ni slot → ⊥)
    → entry_of (happened parts event) ni slot ≡ entry_of parts ni slot
entry_of-happened_other parts (Halt end) ni slot none =
    entry_of-kept parts end.ni.0 (event_done (Halt end)) (λ state. refl) ni slot
entry_of-happened_other parts (Finish end) ni slot none =
    entry_of-kept parts end.ni.0 (event_done (Finish end)) (λ state. refl) ni slot
entry_of-happened_other parts (Change (ClearSlot to number)) ni slot none =
    written-other parts (record { ni = to; slot = number; entry = None })
    (Change (ClearSlot to number)) ni slot refl none
entry_of-happened_other parts (Change (ClearRoute to queue)) ni slot none =
    entry_of-kept parts to.0 (event_done (Change (ClearRoute to queue))) (λ state. refl) ni slot
entry_of-happened_other parts (Change (SetRoute to queue route remote credits)) ni slot none =
    entry_of-kept parts to.0 (event_done (Change (SetRoute to queue route remote credits)))
    (λ state. refl) ni slot
entry_of-happened_other parts (Change (SetSlot to number queue)) ni slot none =
    written-other parts (record { ni = to; slot = number; entry = Some queue })
    (Change (SetSlot to number queue)) ni slot refl none

-- What it does to the one that it writes.
written-same : (parts : List Part) (some write : SlotWrite) → Some some ≡ Some write
    → HasSlot (map wiring_of parts) write.ni.0 write.slot
    → entry_of (with_part some.ni.0 (on_interface (with_entry some)) parts) write.ni.0 write.slot
    ≡ write.entry
written-same parts some write is has =
    ap (λ (other : SlotWrite). entry_of (with_part other.ni.0 (on_interface (with_entry other))
    parts) write.ni.0 write.slot) (same_Some some write is)
    ∙ entry_of-write_same parts write has

entry_of-happened_same : (parts : List Part) (event : Event) (write : SlotWrite)
    → slot_write event ≡ Some write → HasSlot (map wiring_of parts) write.ni.0 write.slot
    → entry_of (happened parts event) write.ni.0 write.slot ≡ write.entry
entry_of-happened_same parts (Halt end) write is has = absurd cc
entry_of-happened_same parts (Finish end) write is has = absurd cc
entry_of-happened_same parts (Change (ClearSlot to number)) write is has =
    written-same parts (record { ni = to; slot = number; entry = None }) write is has
entry_of-happened_same parts (Change (ClearRoute to queue)) write is has = absurd cc
entry_of-happened_same parts (Change (SetRoute to queue route remote credits)) write is has =
    absurd cc
entry_of-happened_same parts (Change (SetSlot to number queue)) write is has =
    written-same parts (record { ni = to; slot = number; entry = Some queue }) write is has

-- Where there is an entry behind the write, it is the one that is written.
entry_in-own : (part : Part) (write : SlotWrite) (queue : ℕ)
    → entry_in write.slot (Some (on_interface (with_entry write) part)) ≡ Some queue
    → write.entry ≡ Some queue
entry_in-own (Interface ni) write queue is =
    elim (cases_lt write.slot (length ni.entries)) [
      | inl within ↦ sym (get_or-set_same ni.entries write.slot write.entry None within) ∙ is
      | inr past ↦
          let size = length-set ni.entries write.slot write.entry in
          absurd (cc (sym (get_or_past (set ni.entries write.slot write.entry) write.slot None
          (omega (arith, size, past))) ∙ is))
    ]
entry_in-own (Router router) write queue is = absurd (cc is)
entry_in-own (TableRouter router) write queue is = absurd (cc is)
entry_in-own (Stage stage) write queue is = absurd (cc is)

entry_of-own : (parts : List Part) (number : ℕ) (write : SlotWrite) (queue : ℕ)
    → entry_in write.slot (slice_get (with_part number (on_interface (with_entry write)) parts) number)
    ≡ Some queue → write.entry ≡ Some queue
entry_of-own [] number write queue is = absurd (cc is)
entry_of-own (part ∷ parts) zero write queue is = entry_in-own part write queue is
entry_of-own (part ∷ parts) (suc number) write queue is = entry_of-own parts number write queue is

written-own : (parts : List Part) (some write : SlotWrite) (queue : ℕ) → Some some ≡ Some write
    → entry_of (with_part some.ni.0 (on_interface (with_entry some)) parts) write.ni.0 write.slot
    ≡ Some queue → write.entry ≡ Some queue
written-own parts some write queue is has =
    entry_of-own parts write.ni.0 write queue
    (subst (λ (other : SlotWrite). entry_of (with_part other.ni.0 (on_interface (with_entry other))
    parts) write.ni.0 write.slot ≡ Some queue) (same_Some some write is) has)

pub entry_of-happened_own : (parts : List Part) (event : Event) (write : SlotWrite) (queue : ℕ)
    → slot_write event ≡ Some write
    → entry_of (happened parts event) write.ni.0 write.slot ≡ Some queue
    → write.entry ≡ Some queue
entry_of-happened_own parts (Halt end) write queue is has = absurd cc
entry_of-happened_own parts (Finish end) write queue is has = absurd cc
entry_of-happened_own parts (Change (ClearSlot to number)) write queue is has =
    written-own parts (record { ni = to; slot = number; entry = None }) write queue is has
entry_of-happened_own parts (Change (ClearRoute to other)) write queue is has = absurd cc
entry_of-happened_own parts (Change (SetRoute to other route remote credits)) write queue is has =
    absurd cc
entry_of-happened_own parts (Change (SetSlot to number other)) write queue is has =
    written-own parts (record { ni = to; slot = number; entry = Some other }) write queue is has

-- What many do.
entry_of-switched_other : (events : List Event) (parts : List Part) (ni slot : ℕ)
    → ((i : ℕ) (event : Event) → slice_get events i ≡ Some event → Writes event ni slot → ⊥)
    → entry_of (switched events parts) ni slot ≡ entry_of parts ni slot
entry_of-switched_other [] parts ni slot none = refl
entry_of-switched_other (event ∷ events) parts ni slot none =
    entry_of-switched_other events (happened parts event) ni slot
    (λ i other at. none (suc i) other at)
    ∙ entry_of-happened_other parts event ni slot (none 0 event refl)

entry_of-switched_same : (events : List Event) (parts : List Part) (i : ℕ) (event : Event)
    (write : SlotWrite) → slice_get events i ≡ Some event → slot_write event ≡ Some write
    → HasSlot (map wiring_of parts) write.ni.0 write.slot
    → ((j : ℕ) (other : Event) → slice_get events j ≡ Some other
    → Writes other write.ni.0 write.slot → j ≡ i)
    → entry_of (switched events parts) write.ni.0 write.slot ≡ write.entry
entry_of-switched_same [] parts i event write at is has alone = absurd cc
entry_of-switched_same (first ∷ events) parts zero event write at is has alone =
    let same : first ≡ event = same_Some first event at in
    entry_of-switched_other events (happened parts first) write.ni.0 write.slot
    (λ j other there writes.
    absurd (let place = alone (suc j) other there writes in omega arith))
    ∙ ap (λ (event : Event). entry_of (happened parts event) write.ni.0 write.slot) same
    ∙ entry_of-happened_same parts event write is has
entry_of-switched_same (first ∷ events) parts (suc i) event write at is has alone =
    entry_of-switched_same events (happened parts first) i event write at is
    (subst (λ (wirings : List Wiring). HasSlot wirings write.ni.0 write.slot)
    (sym (wirings-happened first parts)) has)
    (λ j other there writes.
    let place = alone (suc j) other there writes in omega arith)

pub WritesAlone-holds : (events : List Event) (parts : List Part) → WritesAlone events parts
WritesAlone-holds events parts = record {
  other = entry_of-switched_other events parts;
  own = entry_of-switched_same events parts;
}
