-- Interfaces whose tables are written hold, after each write, just the entries that are told.
use Rattle.std.proofs.Common.{◌≡◌, ◌∙◌, refl, sym, inl, inr, List, [], ◌∷◌, All, Contains, length}
use Rattle.std.proofs.Common.{length-set, get_or, map, Some, None, ◌==◌, fold}
use Rattle.std.proofs.lemmas.Bool.{cases_Bool}
use Rattle.std.proofs.lemmas.List.Elements.{All-filter, All-cons, All-head, All-tail, All-map}
use Rattle.aeth_base.specs.declared.ids.NiId.{NiId}
use Rattle.aeth_ni.specs.declared.write.Write.{Write}
use Rattle.aeth_ni.specs.declared.write.Write.TheVariants.{ClearSlot, ClearRoute, SetRoute, SetSlot}
use Rattle.aeth_ni.specs.Interface.{InterfaceState}
use Rattle.aeth_ni.specs.Program.{Entry, entries_behind}
use Rattle.aeth_ni.specs.Writes.{addressee, IsWritable, written, written_at, written_by}
use Rattle.aeth_ni.specs.Entries.{Holds, HoldJust, IsFor}
use Rattle.aeth_ni.proofs.EntryLemmas.{Holds-written_at}

-- A write keeps the number of its interface.
written-number : (write : Write) (interface : InterfaceState)
    → (written write interface).number ≡ interface.number
written-number (ClearSlot ni slot) interface = refl
written-number (ClearRoute ni queue) interface = refl
written-number (SetRoute ni queue route remote credits) interface = refl
written-number (SetSlot ni slot queue) interface = refl

-- It keeps how many slots there are.
written-slots : (write : Write) (interface : InterfaceState)
    → length (written write interface).entries ≡ length interface.entries
written-slots (ClearSlot ni slot) interface = length-set interface.entries slot None
written-slots (ClearRoute ni queue) interface = refl
written-slots (SetRoute ni queue route remote credits) interface = refl
written-slots (SetSlot ni slot queue) interface = length-set interface.entries slot (Some queue)

-- So does a write that may be for another.
pub written_at-number : (write : Write) (interface : InterfaceState)
    → (written_at write interface).number ≡ interface.number
written_at-number write interface =
    elim (cases_Bool ((addressee write).0 == interface.number.0)) [
      | inl is ↦ rw is (written-number write interface)
      | inr not ↦ rw not refl
    ]

pub written_at-slots : (write : Write) (interface : InterfaceState)
    → length (written_at write interface).entries ≡ length interface.entries
written_at-slots write interface =
    elim (cases_Bool ((addressee write).0 == interface.number.0)) [
      | inl is ↦ rw is (written-slots write interface)
      | inr not ↦ rw not refl
    ]

-- The numbers of interfaces.
abbrev numbers : List InterfaceState → List NiId
numbers interfaces = map (λ interface. interface.number) interfaces

numbers-written : (write : Write) (interfaces : List InterfaceState)
    → numbers (map (written_at write) interfaces) ≡ numbers interfaces
numbers-written write [] = refl
numbers-written write (interface ∷ interfaces) =
    rw (written_at-number write interface, numbers-written write interfaces) refl

-- Whether a write can be done depends on the number of slots alone.
IsWritable-same : (write : Write) (some other : InterfaceState)
    → length some.entries ≡ length other.entries → IsWritable write some → IsWritable write other
IsWritable-same (ClearSlot ni slot) some other same within = rw (← same) within
IsWritable-same (ClearRoute ni queue) some other same within = within
IsWritable-same (SetRoute ni queue route remote credits) some other same within = within
IsWritable-same (SetSlot ni slot queue) some other same within =
    (rw (← same) within.0, within.1)

-- A write that can be done can be done after another.
IsFor-written : (done write : Write) (interfaces : List InterfaceState)
    → IsFor interfaces write → IsFor (map (written_at done) interfaces) write
IsFor-written done write interfaces can =
    record {
      known = rw (numbers-written done interfaces) can.known;
      within = All-map (λ interface. addressee write ≡ interface.number
          → IsWritable write interface) (written_at done) interfaces (λ i interface below to.
          let here = get_or interfaces i interface in
          IsWritable-same write here (written_at done here) (sym (written_at-slots done here))
          (can.within i interface below (to ∙ written_at-number done here)));
    }

-- The entries behind a write are of its interface, or of those before.
All-entries_behind : (P : NiId → Type 0) (entries : List Entry) (write : Write)
    → P (addressee write) → All (λ entry. P entry.ni) entries
    → All (λ entry. P entry.ni) (entries_behind entries write)
All-entries_behind P entries (ClearSlot ni slot) own all =
    All-filter _ (λ entry. P entry.ni) entries all
All-entries_behind P entries (ClearRoute ni queue) own all = all
All-entries_behind P entries (SetRoute ni queue route remote credits) own all = all
All-entries_behind P entries (SetSlot ni slot queue) own all =
    All-cons (λ entry. P entry.ni) (record { ni = ni; slot = slot; queue = queue }) _ own
    (All-filter _ (λ entry. P entry.ni) entries all)

-- One write.
pub HoldJust-written : (write : Write) (interfaces : List InterfaceState) (entries : List Entry)
    → IsFor interfaces write → HoldJust interfaces entries
    → HoldJust (map (written_at write) interfaces) (entries_behind entries write)
HoldJust-written write interfaces entries can hold =
    record {
      each = All-map (λ interface. Holds interface (entries_behind entries write))
          (written_at write) interfaces (λ i interface below.
          Holds-written_at write (get_or interfaces i interface) entries
          (can.within i interface below) (hold.each i interface below));
      own = rw (numbers-written write interfaces)
          (All-entries_behind (Contains (numbers interfaces)) entries write can.known hold.own);
    }

-- Writes, one after the other.
pub HoldJust-written_by : (writes : List Write) (interfaces : List InterfaceState)
    (entries : List Entry) → All (IsFor interfaces) writes → HoldJust interfaces entries
    → HoldJust (written_by writes interfaces) (fold entries_behind entries writes)
HoldJust-written_by [] interfaces entries can hold = hold
HoldJust-written_by (write ∷ writes) interfaces entries can hold =
    HoldJust-written_by writes (map (written_at write) interfaces) (entries_behind entries write)
    (λ i later below. IsFor-written write (get_or writes i later) interfaces
    (All-tail (IsFor interfaces) write writes can i later below))
    (HoldJust-written write interfaces entries (All-head (IsFor interfaces) write writes can) hold)
