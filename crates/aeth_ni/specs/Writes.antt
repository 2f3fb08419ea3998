-- Writes to the tables of network interfaces.
--
--   addressee, IsWritable          what a write needs
--   written                        what it makes of its interface
--   written_at, written_by         what it makes of any, and what writes make of all
--
-- One write in a cycle, through one central port: this project's own.
use Rattle.std.proofs.Common.{◌<◌, ◌==◌, if◌then◌else◌, Some, None, List, map, fold, length}
use Rattle.std.proofs.Common.{slice_set}
use Rattle.aeth_base.specs.declared.ids.NiId.{NiId}
use Rattle.aeth_ni.specs.declared.write.Write.{Write}
use Rattle.aeth_ni.specs.declared.write.Write.TheVariants.{ClearSlot, ClearRoute, SetRoute, SetSlot}
use Rattle.aeth_ni.specs.Limits.{queues_of_interface}
use Rattle.aeth_ni.specs.Queue.{IsRoute, with_route, without_route}
use Rattle.aeth_ni.specs.Interface.{InterfaceState, changed}

-- The interface that a write is for.
abbrev pub addressee : Write → NiId
addressee (ClearSlot ni slot) = ni
addressee (ClearRoute ni queue) = ni
addressee (SetRoute ni queue route remote credits) = ni
addressee (SetSlot ni slot queue) = ni

-- The slot and the queue that a write names are there, and its route fits a header.
abbrev pub IsWritable : Write → InterfaceState → Type 0
IsWritable (ClearSlot ni slot) interface = slot < length interface.entries
IsWritable (ClearRoute ni queue) interface = queue < queues_of_interface
IsWritable (SetRoute ni queue route remote credits) interface =
    (queue < queues_of_interface) × IsRoute (record { ports = route; remote = remote })
IsWritable (SetSlot ni slot queue) interface =
    (slot < length interface.entries) × (queue < queues_of_interface)

-- The interface once it is written.
abbrev pub written : Write → InterfaceState → InterfaceState
written (ClearSlot ni slot) interface =
    record interface { entries = slice_set interface.entries slot None }
written (ClearRoute ni queue) interface = changed queue without_route interface
written (SetRoute ni queue route remote credits) interface =
    changed queue (with_route (record { ports = route; remote = remote }) credits) interface
written (SetSlot ni slot queue) interface =
    record interface { entries = slice_set interface.entries slot (Some queue) }

-- An interface once a write is done: written where the write is for it, and else as it was.
abbrev pub written_at : Write → InterfaceState → InterfaceState
written_at write interface =
    if (addressee write).0 == interface.number.0 then written write interface else interface

-- The interfaces once these writes are done, one after the other.
abbrev pub written_by : List Write → List InterfaceState → List InterfaceState
written_by writes interfaces =
    fold (λ interfaces write. map (written_at write) interfaces) interfaces writes
