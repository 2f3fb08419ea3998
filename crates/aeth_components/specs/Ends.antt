-- The components at the ends of wires.
--
--   part_number                the component at a node of a chip
--   IsSender, AreSenders, AreReceivers, NotedTo    for each wire of a chip the component that sends on it, or receives
--   IsAtEnds                   for each wire between components those that send and receive there
--   AreReceived                that all wires have receivers
--   FitsWires, AreEnds         the ends of the wires of components with these wirings
--   AreEndsOf                  the ends of the wires of a chip
--
-- This project's own.
use Rattle.std.proofs.Common.{◌≡◌, ◌≢◌, ℕ, ◌+◌, ◌-◌, ◌^◌, ◌<◌, ◌≤◌, ◌==◌, Bool, true, false}
use Rattle.std.proofs.Common.{if◌then◌else◌, List, length, All, Some, slice_get}
use Rattle.aeth_chip.specs.Chip.{ChipData}
use Rattle.aeth_chip.specs.Wires.{further_wires, wire_at, wires_of}
use Rattle.aeth_chip.specs.declared.node.Link.{Link}
use Rattle.aeth_chip.specs.declared.node.Node.{Node, TheVariants.Ni, TheVariants.Router}
use Rattle.aeth_components.specs.Components.{part_count}
use Rattle.aeth_components.specs.Wirings.{AreInputsApart, Wiring, InterfaceWiring, RouterWiring}
use Rattle.aeth_components.specs.Wirings.{StageWiring, receives_by, sends_by}
use Rattle.aeth_components.specs.declared.ends.Ends.{Ends}

-- The number of the component at a node, behind so many interfaces.
abbrev pub part_number : ℕ → Node → ℕ
part_number count (Ni n) = n.0
part_number count (Router r) = count + r.0

-- The number of the stage that sends on a further wire.
abbrev pub stage_number : ChipData → ℕ → ℕ
stage_number chip wire = length chip.nis + length chip.routers + (wire - length chip.links)

-- The number of the component that sends on a wire of a chip.
pub record IsSender (chip : ChipData) (wire number : ℕ) : Type 0 where
  pub first : (link : Link) → slice_get chip.links wire ≡ Some link
      → number ≡ part_number (length chip.nis) link.from
  pub further : length chip.links ≤ wire → number ≡ stage_number chip wire
  pub below : number < part_count chip

-- On the first wire of each link sends the component at the node where it begins, and on each
-- further wire a stage.
pub record AreSenders (chip : ChipData) (senders : List ℕ) : Type 0 where
  pub size : length senders ≡ wires_of chip.links
  pub first : (wire : ℕ) (link : Link) → slice_get chip.links wire ≡ Some link
      → slice_get senders wire ≡ Some (part_number (length chip.nis) link.from)
  pub further : (k : ℕ) → k < further_wires chip.links
      → slice_get senders (length chip.links + k) ≡ Some (stage_number chip (length chip.links + k))
  pub below : All (λ number. number < part_count chip) senders

-- On the last wire of a link receives the component at the node where the link ends, and on each
-- other one the stage that sends on the next.
abbrev pub receiver_for : ChipData → ℕ → ℕ → Link → ℕ
receiver_for chip number place link =
    if place + 1 == link.delay then part_number (length chip.nis) link.to
    else stage_number chip (wire_at chip.links number (place + 1))

pub record AreReceivers (chip : ChipData) (receivers : List ℕ) : Type 0 where
  pub size : length receivers ≡ wires_of chip.links
  pub at : (number place : ℕ) (link : Link) → slice_get chip.links number ≡ Some link
      → place < link.delay → slice_get receivers (wire_at chip.links number place)
      ≡ Some (receiver_for chip number place link)
  pub below : All (λ number. number < part_count chip) receivers

-- The first so many wires of a link have their receivers, and no other wire has changed.
pub record NotedTo (chip : ChipData) (number : ℕ) (link : Link) (old now : List ℕ) (to : ℕ)
    : Type 0 where
  pub size : length now ≡ length old
  pub at : (place : ℕ) → place < to
      → slice_get now (wire_at chip.links number place) ≡ Some (receiver_for chip number place link)
  pub away : (wire : ℕ) → ((place : ℕ) → place < to → wire ≢ wire_at chip.links number place)
      → slice_get now wire ≡ slice_get old wire
  pub below : All (λ number. number < part_count chip) now

-- Each component is at its end of each wire: on its outputs, or on its inputs.
pub record IsAtEnds (sides : Wiring → ℕ → Bool) (wirings : List Wiring) (ends : List ℕ) : Type
    0 where
  pub at : (wire i : ℕ) (wiring : Wiring) → slice_get wirings i ≡ Some wiring
      → sides wiring wire ≡ true → slice_get ends wire ≡ Some i
  pub below : All (λ number. number < length wirings) ends

-- On each wire a component receives, and none receives on a wire twice.
pub record AreReceived (wirings : List Wiring) (wires : ℕ) : Type 0 where
  pub some : (wire : ℕ) → wire < wires
      → (i : ℕ) × (wiring : Wiring) × (slice_get wirings i ≡ Some wiring)
      × (receives_by wiring wire ≡ true)
  pub apart : All AreInputsApart wirings

-- Whether a component with this wiring is an interface.
abbrev pub is_interface : Wiring → Bool
is_interface (InterfaceWiring number leaving entering slots queues) = true
is_interface (RouterWiring incoming outgoing) = false
is_interface (StageWiring input output) = false

-- The ends of so many wires are components, and all of these numbers fit 32 bits.
pub record FitsWires (wires : ℕ) (ends : Ends) : Type 0 where
  pub senders : length ends.senders.items ≡ wires
  pub receivers : length ends.receivers.items ≡ wires
  pub senders_below : All (λ number. number < ends.parts) ends.senders.items
  pub receivers_below : All (λ number. number < ends.parts) ends.receivers.items
  pub interfaces : ends.interfaces ≤ ends.parts
  pub few_wires : wires < 2 ^ 32
  pub few_parts : ends.parts + ends.parts < 2 ^ 32

-- They are those that send and receive there, and the interfaces are the first components.
pub record AreEnds (wirings : List Wiring) (wires : ℕ) (ends : Ends) : Type 0 where
  pub fits : FitsWires wires ends
  pub count : ends.parts ≡ length wirings
  pub sends : IsAtEnds sends_by wirings ends.senders.items
  pub receives : IsAtEnds receives_by wirings ends.receivers.items
  pub received : AreReceived wirings wires
  pub first : (i : ℕ) (wiring : Wiring) → slice_get wirings i ≡ Some wiring → i < ends.interfaces
      → is_interface wiring ≡ true
  pub others : (i : ℕ) (wiring : Wiring) → slice_get wirings i ≡ Some wiring → ends.interfaces ≤ i
      → is_interface wiring ≡ false

-- The ends of the wires of a chip.
pub record AreEndsOf (chip : ChipData) (ends : Ends) : Type 0 where
  pub senders : AreSenders chip ends.senders.items
  pub receivers : AreReceivers chip ends.receivers.items
  pub interfaces : ends.interfaces ≡ length chip.nis
  pub parts : ends.parts ≡ part_count chip
  pub few_wires : wires_of chip.links < 2 ^ 32
  pub few_parts : part_count chip + part_count chip < 2 ^ 32
