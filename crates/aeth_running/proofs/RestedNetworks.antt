-- What a network of accepted inputs is behind a cycle that it is still in.
use Rattle.std.proofs.Common.{◌≡◌, ◌<◌, ◌∙◌, ◌+◌, ◌++◌, ℕ, zero, suc, List, [], None, Some, ap}
use Rattle.std.proofs.Common.{arith, fold, inl, inr, length, map, slice_get, sym, append-nil}
use Rattle.std.proofs.lemmas.Bool.{cases_Bool}
use Rattle.std.specs.List.{slice_index_or}
use Rattle.aeth_clocked.specs.Wires.{flit_on}
use Rattle.aeth_ni.specs.Interface.{InterfaceState}
use Rattle.aeth_router.specs.declared.part.Part.TheVariants.{Interface}
use Rattle.aeth_trace.specs.Channels.{channel_number}
use Rattle.aeth_components.proofs.WiringLemmas.{length-wires_driven}
use Rattle.aeth_components.proofs.TurnLemmas.{dequeued_by-none, pulled-closed, pulled-open}
use Rattle.aeth_components.specs.Components.{ComponentsState, moment_of, wires_driven}
use Rattle.aeth_components.specs.ChannelStates.{is_open}
use Rattle.aeth_components.specs.Phases.{Moment, pulled, refilled}
use Rattle.aeth_components.specs.declared.channel_state.ChannelState.{ChannelState}
use Rattle.aeth_accepted.specs.Inputs.{Inputs}
use Rattle.aeth_refinement.proofs.Routed.{interface-there}
use Rattle.aeth_schedule.specs.{Rooms.rooms_of, Switching.loaded_of}
use Rattle.aeth_schedule.specs.{declared.session_start.SessionStart.SessionStart}
use Rattle.aeth_stimuli.specs.{Loaded.no_channel_state, Stimuli.Offer}
use Rattle.aeth_running.proofs.LastFlits.{last-latched, last-loaded}
use Rattle.aeth_running.proofs.Played.{played-next, played-routing, played-time}
use Rattle.aeth_running.proofs.RestingNetworks.{stepped-components}
use Rattle.aeth_running.proofs.RestingParts.{drives-rest, lands-none, latches-rest}
use Rattle.aeth_running.proofs.RestingStates.{both-empty, in_turn-rests, state-rests}
use Rattle.aeth_running.proofs.RouterTables.{but-first}
use Rattle.aeth_running.specs.Network.{NetworkState, first_network, played, ready_in, state_behind}
use Rattle.aeth_running.specs.Network.{accepted_with, gone_with, session_starts_in, offers_in}
use Rattle.aeth_running.specs.Network.{outside_in, outside_with, stepped, takes_in, taking_with}
use Rattle.aeth_running.specs.Network.{until_with, untils_in}
use Rattle.aeth_running.specs.Running.{IsServing}
use Rattle.aeth_running.specs.Still.{IsStill, passed_over}
use Rattle.aeth_running.specs.Routing.{Entering, Routing, entered_with, enterings_in}

-- Where the wires are empty interfaces tell of no last flit.
last-none : (inputs : Inputs) (routing : Routing) (t : ℕ)
    → ((l : ℕ) → flit_on (played t (first_network inputs routing)).components.wires l ≡ None)
    → (i : ℕ) (ni : InterfaceState)
    → slice_get (played t (first_network inputs routing)).components.parts i ≡ Some (Interface ni)
    → ni.last ≡ None
unfolding played stepped first_network
last-none inputs routing zero empty i ni at =
    last-loaded inputs.chip (rooms_of inputs) (loaded_of inputs) i ni
    (interface-there _ _ (but-first routing inputs.chip (rooms_of inputs) (loaded_of inputs)) i ni at)
last-none inputs routing (suc t) empty i ni at = last-latched _ empty _ i ni at

-- Where no rows enter, no session goes and no word is offered, and the components are as they were once
-- they were ready, all else stays.
over-nothing : (all : NetworkState) → (stepped all).components ≡ ready_in all
    → enterings_in all.routing all.time ≡ [] → session_starts_in all.stimuli all.time ≡ []
    → offers_in all.stimuli all.time ≡ []
    → stepped all ≡ passed_over all
unfolding stepped
over-nothing all rests unentered ungone unoffered =
    let untils = untils_in all.stimuli all.time all.untils in
    let stood = λ (session_start : SessionStart).
    slice_index_or all.components.channel_states (channel_number session_start.channel)
    no_channel_state in
    let behind =
    λ (enterings : List Entering) (session_starts : List SessionStart) (offers : List Offer).
    let until = fold until_with all.untils session_starts in
    let one : NetworkState = record all {
      components = record all.components {
        parts = fold entered_with all.components.parts enterings;
        channel_states = fold taking_with
            (fold (accepted_with all.time until)
            (fold gone_with all.components.channel_states session_starts) offers)
            (takes_in all.stimuli all.time);
      };
      untils = until;
      outside = fold (outside_with all.time until) all.outside offers;
      replaced = all.replaced ++ map stood session_starts;
      time = all.time + 1;
    } in
    one in
    ap (λ (one : ComponentsState). record all {
      components = one;
      untils = untils;
      outside = outside_in all.stimuli all.time untils all.outside;
      replaced = all.replaced ++ map stood (session_starts_in all.stimuli all.time);
      time = all.time + 1;
    }) rests
    ∙ (λ i. behind (unentered i) (ungone i) (unoffered i))
    ∙ ap (λ (replaced : List ChannelState). record (passed_over all) { replaced = replaced })
    (append-nil all.replaced)

module _ (inputs : Inputs) (routing : Routing) (t : ℕ)
    (serves : IsServing inputs t (played t (first_network inputs routing)).components
    (ready_in (played t (first_network inputs routing))))
    (still : IsStill (played t (first_network inputs routing)))
    (enqueues : (number : ℕ) (channel_state : ChannelState)
    → slice_get (ready_in (played t (first_network inputs routing))).channel_states number
    ≡ Some channel_state
    → refilled (ready_in (played t (first_network inputs routing))).words t
    (ready_in (played t (first_network inputs routing))).parts channel_state
    ≡ ((ready_in (played t (first_network inputs routing))).parts, channel_state)) where
  abbrev all : NetworkState
  all = played t (first_network inputs routing)

  abbrev ready : ComponentsState
  ready = ready_in all

  takes : (number : ℕ) (channel_state : ChannelState)
      → slice_get ready.channel_states number ≡ Some channel_state
      → pulled t ready.parts channel_state ≡ (ready.parts, channel_state)
  takes number channel_state at = elim (cases_Bool (is_open channel_state t)) [
    | inl opened ↦
        pulled-open t ready.parts channel_state opened
        ∙ dequeued_by-none ready.parts channel_state
        (still.unasked number channel_state at
        (ap (is_open channel_state) (played-time inputs routing t) ∙ opened))
    | inr closed ↦ pulled-closed t ready.parts channel_state closed
  ]

  behind : (stepped all).components ≡ state_behind [] t ready
  behind = stepped-components all
      ∙ (λ i. state_behind (still.eventless i) (played-time inputs routing t i) ready)

  -- No component sends.
  silent : (l : ℕ) → flit_on (wires_driven ready.parts (length ready.wires) t) l ≡ None
  silent l =
      ap (λ (one : Moment). flit_on (wires_driven one.parts (length ready.wires) t) l)
      (sym (in_turn-rests (refilled ready.words t) (moment_of ready) enqueues))
      ∙ ap (λ (one : ComponentsState). flit_on one.wires l) (sym behind) ∙ still.silent l

  -- So each rests, and nothing is counted.
  rests : (stepped all).components ≡ ready
  rests =
      let wired = serves.follows.wired in
      let latched = serves.follows.latched in
      let last = λ (i : ℕ) (ni : InterfaceState) (at : slice_get ready.parts i ≡ Some (Interface ni)).
      last-none inputs routing t still.empty i ni
      (interface-there ready.parts all.components.parts serves.prepares.parts i ni at) in
      behind
      ∙ state-rests ready t still.empty enqueues takes
      (drives-rest ready.parts ready.wires t wired latched still.empty silent last)
      (both-empty (wires_driven ready.parts (length ready.wires) t) ready.wires
      (length-wires_driven ready.parts (length ready.wires) t) silent still.empty)
      (latches-rest ready.parts ready.wires t wired latched still.empty silent last)
      (lands-none ready.parts ready.wires t wired latched still.empty silent last)

  pub components-rest : (played (t + 1) (first_network inputs routing)).components ≡ ready
  components-rest =
      ap (λ (one : NetworkState). one.components) (played-next (first_network inputs routing) t) ∙ rests

  pub passes-over : enterings_in routing t ≡ [] → 0 < t → played (t + 1) (first_network inputs routing) ≡ passed_over all
  passes-over unentered late =
      let time = played-time inputs routing t in
      played-next (first_network inputs routing) t
      ∙ over-nothing all rests
      ((λ i. enterings_in (played-routing inputs routing t i) (time i)) ∙ unentered) (still.ungone (omega arith)) still.unoffered
