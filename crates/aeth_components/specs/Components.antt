-- The components of a network and the channels' sessions, and what one cycle makes of them.
--
--   ComponentsState, IsComponents, first_components     the state, and what holds of every one
--   switched_from, ready_of                             before the drive
--   driven_from, latched_from                           behind it
--   latched_of, wires_driven, Runs, ComponentsCycle     one cycle
--   taken_from, IsStepped                               the cycle of simultaneous components
--
-- This project's own.
use Rattle.std.proofs.Common.{◌≡◌, ◌≤◌, ◌<◌, ◌+◌, ◌^◌, ℕ, List, length, map, fold, replicate, All}
use Rattle.std.proofs.Common.{Option, None}
use Rattle.aeth_chip.specs.{Chip.ChipData, Wires.further_wires, Wires.wires_of}
use Rattle.aeth_clocked.specs.{Driven.driven_wires, Stepped.stepped, declared.flit.Flit.Flit}
use Rattle.aeth_router.specs.Part.{absorb_of, after_of, emit_of, outputs_of, part_meaning}
use Rattle.aeth_router.specs.declared.part.Part.{Part}
use Rattle.aeth_components.specs.{declared.event.Event.Event}
use Rattle.aeth_components.specs.{declared.channel_state.ChannelState.ChannelState}
use Rattle.aeth_components.specs.{declared.making.RouterKind.RouterKind, Changes.switched}
use Rattle.aeth_components.specs.{Counting.counted, Counting.flits_counted, Counting.noted}
use Rattle.aeth_components.specs.{Wirings.Wiring, Wirings.IsWired, Wirings.wiring_of}
use Rattle.aeth_components.specs.{ChannelStates.IsChannelState, Making.new_parts, Phases.Moment}
use Rattle.aeth_components.specs.{Phases.in_turn, Phases.pulled, Phases.refilled}

-- The components, the wires as they were driven last, the channels, the words of all sessions, the
-- cycle in which each landed, and the flits that each link has carried.
pub record ComponentsState : Type 0 where
  pub parts : List Part
  pub wires : List (Option Flit)
  pub channel_states : List ChannelState
  pub words : List ℕ
  pub landings : List ℕ
  pub flits : List ℕ

abbrev pub components_of : List Part → List (Option Flit) → List ChannelState → List ℕ → List ℕ
    → List ℕ
    → ComponentsState
components_of parts wires channel_states words landings flits = record {
  parts = parts;
  wires = wires;
  channel_states = channel_states;
  words = words;
  landings = landings;
  flits = flits;
}

-- What holds of them.
pub record IsComponents (all : ComponentsState) : Type 0 where
  pub wired : IsWired (map wiring_of all.parts) (length all.wires)
  pub channel_states : All (IsChannelState (length all.words) (length all.parts)) all.channel_states
  pub landings : length all.landings ≡ length all.words
  pub flits : length all.flits ≤ length all.wires
  pub few : length all.flits < 2 ^ 32

-- How many components a chip has.
abbrev pub part_count : ChipData → ℕ
part_count chip = length chip.nis + length chip.routers + further_wires chip.links

-- Before the first cycle, with routers of a kind.
abbrev pub first_components : ChipData → RouterKind → List ℕ → List ChannelState → List ℕ
    → ComponentsState
first_components chip kind rooms channel_states words =
    components_of (new_parts chip kind rooms) (replicate (wires_of chip.links) None) channel_states
    words
    (replicate (length words) 0) (replicate (length chip.links) 0)

-- What never changes of the components.
abbrev pub wirings_of : ComponentsState → List Wiring
wirings_of all = map wiring_of all.parts

-- The components and the channels.
abbrev pub moment_of : ComponentsState → Moment
moment_of all = record { parts = all.parts; channel_states = all.channel_states }

-- Once the events of a cycle are done.
abbrev pub switched_from : List Event → Moment → Moment
switched_from events moment = record moment { parts = switched events moment.parts }

-- Once the source queues are refilled.
abbrev pub ready_of : List ℕ → List Event → ℕ → Moment → Moment
ready_of words events cycle moment = in_turn (refilled words cycle) (switched_from events moment)

-- Once all components have driven.
abbrev pub driven_from : ℕ → Moment → Moment
driven_from cycle moment =
    record moment { parts = map (λ part. after_of part cycle) moment.parts }

-- Once all have latched these wires.
abbrev pub latched_from : List (Option Flit) → Moment → Moment
latched_from wires moment =
    record moment { parts = map (λ part. absorb_of part wires) moment.parts }

-- Once the components have latched, in a cycle that leaves these wires.
abbrev pub latched_of : List ℕ → List Event → ℕ → List (Option Flit) → Moment → Moment
latched_of words events cycle wires moment =
    latched_from wires
    (in_turn (pulled cycle) (driven_from cycle (ready_of words events cycle moment)))

-- What components drive in a cycle on so many wires.
abbrev pub wires_driven : List Part → ℕ → ℕ → List (Option Flit)
wires_driven parts count cycle = driven_wires outputs_of emit_of parts count cycle

-- One cycle up to the latch: events, refilling, driving, taking, and latching.
pub record Runs (words : List ℕ) (events : List Event) (cycle : ℕ)
    (old_wires new_wires : List (Option Flit)) (old new : Moment) : Type 0 where
  pub wires : new_wires
      ≡ wires_driven (ready_of words events cycle old).parts (length old_wires) cycle
  pub moment : new ≡ latched_of words events cycle new_wires old
  pub wirings : map wiring_of new.parts ≡ map wiring_of old.parts
  pub count : length new.channel_states ≡ length old.channel_states

-- One cycle, and what is counted behind it.
pub record ComponentsCycle (events : List Event) (cycle : ℕ) (old new : ComponentsState) : Type
    0 where
  pub wires : new.wires
      ≡ wires_driven (ready_of old.words events cycle (moment_of old)).parts (length old.wires) cycle
  pub parts : new.parts ≡ (latched_of old.words events cycle new.wires (moment_of old)).parts
  pub channel_states : let latched = latched_of old.words events cycle new.wires (moment_of old) in
      new.channel_states ≡ map (counted cycle latched.parts) latched.channel_states
  pub words : new.words ≡ old.words
  pub landings : let latched = latched_of old.words events cycle new.wires (moment_of old) in
      new.landings ≡ fold (noted cycle latched.parts) old.landings latched.channel_states
  pub flits : new.flits ≡ flits_counted new.wires old.flits
  pub wirings : wirings_of new ≡ wirings_of old
  pub size : length new.parts ≡ length old.parts
  pub count : length new.channel_states ≡ length old.channel_states

-- What the receivers of these channels leave of components in a cycle.
abbrev pub taken_from : ℕ → List ChannelState → List Part → List Part
taken_from cycle channel_states parts =
    (in_turn (pulled cycle) (record { parts = parts; channel_states = channel_states })).parts

-- From where the source queues are refilled, a cycle does to the components what simultaneous ones
-- do: all drive, the receivers take, and each latches what all drove.
abbrev pub IsStepped : List Event → ℕ → ComponentsState → ComponentsState → Type 0
IsStepped events cycle old new =
    let ready = ready_of old.words events cycle (moment_of old) in
    new.parts
    ≡ stepped part_meaning (taken_from cycle ready.channel_states) ready.parts (length old.wires)
    cycle
