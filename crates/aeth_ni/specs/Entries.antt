-- What the slot tables of interfaces hold, as entries.
-- This project's own.
use Rattle.std.proofs.Common.{◌≡◌, ◌↔◌, ℕ, List, All, Contains, Some, map, slice_get}
use Rattle.aeth_ni.specs.{declared.write.Write.Write, Interface.InterfaceState, Program.Entry}
use Rattle.aeth_ni.specs.{Writes.addressee, Writes.IsWritable}

-- Of the entries those of this interface are what its slots name.
abbrev pub Holds : InterfaceState → List Entry → Type 0
Holds interface entries = (slot queue : ℕ)
    → (slice_get interface.entries slot ≡ Some (Some queue))
    ↔ Contains entries (record { ni = interface.number; slot = slot; queue = queue })

-- The interfaces hold just these entries: of each its own, and there is none of another.
pub record HoldJust (interfaces : List InterfaceState) (entries : List Entry) : Type 0 where
  pub each : All (λ interface. Holds interface entries) interfaces
  pub own : All (λ entry. Contains (map (λ interface. interface.number) interfaces) entry.ni)
      entries

-- A write is for one of the interfaces, and can be done there.
pub record IsFor (interfaces : List InterfaceState) (write : Write) : Type 0 where
  pub known : Contains (map (λ interface. interface.number) interfaces) (addressee write)
  pub within : All (λ interface. addressee write ≡ interface.number → IsWritable write interface)
      interfaces
