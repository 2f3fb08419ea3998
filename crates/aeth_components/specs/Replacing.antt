-- A component takes the place of another, and what that one holds is lost.
--
--   emptied      a component that has latched nothing
--   without_held      the wires without the flits that a component holds
--
-- A reset of one component: this project's own.
use Rattle.std.proofs.Common.{if◌then◌else◌, List, [], Option, None, length, map}
use Rattle.std.specs.List.{range_with_len}
use Rattle.aeth_clocked.specs.{Wires.flit_on, declared.flit.Flit.Flit}
use Rattle.aeth_router.specs.{Part.inputs_of, declared.part.Part.Part}
use Rattle.aeth_components.specs.Seen.{seen}

-- A component once it has latched wires that have nothing.
abbrev pub emptied : Part → Part
emptied part = seen [] part

-- What a component holds is on its incoming wires. So these have no flit any more; on all others stays what is there,
-- also on those on which the component sent.
abbrev pub without_held : Part → List (Option Flit) → List (Option Flit)
without_held part wires =
    map (λ wire. if inputs_of part wire then None else flit_on wires wire)
    (range_with_len 0 (length wires))
