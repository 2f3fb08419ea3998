-- The components of a chip, before the first cycle.
-- This project's own.
use Rattle.std.proofs.Common.{ℕ, ◌*◌, ◌+◌, ◌-◌, ◌++◌, List, length, map, slice_index, slice_range}
use Rattle.std.specs.List.{flat_map, range_with_len}
use Rattle.aeth_chip.specs.{Chip.ChipData, Nodes.receives_on, Nodes.sends_on, Paths.delay_of}
use Rattle.aeth_chip.specs.{Wires.wire_at, declared.node.Link.Link, declared.node.Node.Node}
use Rattle.aeth_chip.specs.{declared.node.Node.TheVariants.Ni}
use Rattle.aeth_router.specs.Router.{last_wire, new_router}
use Rattle.aeth_router.specs.Stage.{new_stage}
use Rattle.aeth_router.specs.TableRouter.{new_table_router}
use Rattle.aeth_router.specs.declared.part.Part.{Part}
use Rattle.aeth_router.specs.declared.part.Part.TheVariants.{Interface, Router, Stage, TableRouter}
use Rattle.aeth_components.specs.declared.making.RouterKind.{RouterKind}
use Rattle.aeth_components.specs.declared.making.RouterKind.TheVariants.{ByHeader, ByTable}
use Rattle.aeth_ni.specs.{Interface.new_interface, Limits.queues_of_interface}

-- An interface, which sends on its one link and receives on the last wire of the other, where the
-- rooms are listed by interfaces and queues.
abbrev pub made_interface : ChipData → List ℕ → ℕ → Part
made_interface chip rooms number =
    let node : Node = Ni (record { 0 = number }) in
    Interface (new_interface
    (record { 0 = number })
    (record { 0 = slice_index (sends_on node chip.links) 0 })
    (record { 0 = last_wire chip.links (slice_index (receives_on node chip.links) 0) })
    chip.slots
    (slice_range rooms (number * queues_of_interface)
    (number * queues_of_interface + queues_of_interface)))

-- A router of a kind, which holds no flit, and has no entries where it has a table.
abbrev pub made_router : ChipData → RouterKind → ℕ → Part
made_router chip ByHeader number = Router (new_router (record { 0 = number }) chip.links)
made_router chip ByTable number = TableRouter (new_table_router (record { 0 = number }) chip)

-- The stage behind a wire of a link.
abbrev pub made_stage : List Link → ℕ → ℕ → Part
made_stage links link place =
    Stage (new_stage
    (record { 0 = wire_at links link place }) (record { 0 = wire_at links link (place + 1) }))

-- The stages of one link, one before each further wire.
abbrev pub link_stages : List Link → ℕ → List Part
link_stages links link =
    map (made_stage links link) (range_with_len 0 (delay_of links (record { 0 = link }) - 1))

-- Those of the first so many links.
abbrev pub made_stages : List Link → ℕ → List Part
made_stages links count = flat_map (link_stages links) (range_with_len 0 count)

-- The interfaces in their order, the routers in theirs, and the stages in the order of the wires
-- on which they send.
abbrev pub new_parts : ChipData → RouterKind → List ℕ → List Part
new_parts chip kind rooms =
    (map (made_interface chip rooms) (range_with_len 0 (length chip.nis))
    ++ map (made_router chip kind) (range_with_len 0 (length chip.routers)))
    ++ made_stages chip.links (length chip.links)
