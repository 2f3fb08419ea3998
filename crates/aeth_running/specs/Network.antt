-- A network, cycle by cycle.
--
--   NetworkState      a network: what it is given, its components, and what a log is made of
--   state_behind      the components once a cycle is done, with these events
--   session_starts_in, offers_in, takes_in      what a cycle brings
--   untils_in, channel_states_in, outside_in      sessions go, words are accepted, and receivers take
--   stepped, played      a network behind one cycle, and behind so many
--   first_network      the network of inputs before the first cycle
-- This project's own.
use Rattle.std.proofs.Common.{ℕ, zero, suc, ◌+◌, ◌*◌, ◌==◌, nat_lt, if◌then◌else◌, List, [], ◌++◌}
use Rattle.std.proofs.Common.{filter, fold, length, map, replicate, slice_index, slice_set}
use Rattle.std.specs.List.{slice_index_or}
use Rattle.aeth_trace.specs.Channels.{channel_number}
use Rattle.aeth_report.specs.Log.{LogData}
use Rattle.aeth_components.specs.Components.{ComponentsState, components_of, latched_of, moment_of}
use Rattle.aeth_components.specs.Components.{ready_of, wires_driven}
use Rattle.aeth_components.specs.Counting.{counted, flits_counted, noted}
use Rattle.aeth_components.specs.ChannelStates.{with_channel_state}
use Rattle.aeth_components.specs.declared.event.Event.{Event}
use Rattle.aeth_components.specs.declared.channel_state.ChannelState.{ChannelState}
use Rattle.aeth_accepted.specs.Inputs.{Inputs}
use Rattle.aeth_schedule.specs.declared.session_start.SessionStart.{SessionStart}
use Rattle.aeth_stimuli.specs.{Loaded.loaded_as, Loaded.no_channel_state, Stimuli.Offer}
use Rattle.aeth_stimuli.specs.{Stimuli.Stimuli, Stimuli.Take, Stimuli.stimuli_of, Events.events_in}
use Rattle.aeth_running.specs.FirstLog.{first_log}
use Rattle.aeth_running.specs.Routing.{Routing, entered_first, entered_with, enterings_in, kind_of}

-- A network: what it is given, and by what its routers send on; its components; for each channel until
-- when the session that went last accepts words, and how many words were offered outside of all
-- sessions; for each session that has gone how its channel stood before; the log, of which nothing has
-- landed; and the cycles done.
pub record NetworkState : Type 0 where
  pub stimuli : Stimuli
  pub routing : Routing
  pub components : ComponentsState
  pub untils : List ℕ
  pub outside : List ℕ
  pub replaced : List ChannelState
  pub log : LogData
  pub time : ℕ

-- The components once a cycle is done, with these events.
abbrev pub state_behind : List Event → ℕ → ComponentsState → ComponentsState
state_behind events cycle old =
    let ready = ready_of old.words events cycle (moment_of old) in
    let wires = wires_driven ready.parts (length old.wires) cycle in
    let latched = latched_of old.words events cycle wires (moment_of old) in
    components_of latched.parts wires (map (counted cycle latched.parts) latched.channel_states)
    old.words
    (fold (noted cycle latched.parts) old.landings latched.channel_states)
    (flits_counted wires old.flits)

-- What a cycle brings beside its events: the sessions that go.
abbrev pub session_starts_in : Stimuli → ℕ → List SessionStart
session_starts_in all t =
    filter (λ session_start. session_start.channel_state.go == t) all.schedule.session_starts

-- The words that are offered.
abbrev pub offers_in : Stimuli → ℕ → List Offer
offers_in all t = filter (λ offer. offer.cycle == t) all.offers

-- And the rows of receivers.
abbrev pub takes_in : Stimuli → ℕ → List Take
takes_in all t = filter (λ take. take.cycle == t) all.takes

-- A session goes: its channel accepts words until it stops.
abbrev pub until_with : List ℕ → SessionStart → List ℕ
until_with untils session_start =
    slice_set untils (channel_number session_start.channel) session_start.until

-- And its channel begins anew. Its receiver takes words as before.
abbrev pub gone_with : List ChannelState → SessionStart → List ChannelState
gone_with channel_states session_start =
    with_channel_state (channel_number session_start.channel)
    (λ channel_state. record session_start.channel_state { pull = channel_state.pull })
    channel_states

-- A word that is offered in cycle t is accepted by the session of its channel, where this goes on.
abbrev pub accepted_with : ℕ → List ℕ → List ChannelState → Offer → List ChannelState
accepted_with t untils channel_states offer =
    if nat_lt t (slice_index untils offer.number)
    then with_channel_state offer.number
    (λ channel_state. record channel_state { accepted = channel_state.accepted + 1 })
    channel_states
    else channel_states

-- Else it is outside of all sessions.
abbrev pub outside_with : ℕ → List ℕ → List ℕ → Offer → List ℕ
outside_with t untils outside offer =
    if nat_lt t (slice_index untils offer.number) then outside
    else slice_set outside offer.number (slice_index outside offer.number + 1)

-- A receiver takes words as a row says.
abbrev pub taking_with : List ChannelState → Take → List ChannelState
taking_with channel_states take =
    with_channel_state take.number (λ channel_state. record channel_state { pull = take.pull })
    channel_states

module _ (all : Stimuli) (t : ℕ) where
  -- Until when channels accept words in a cycle.
  abbrev pub untils_in : List ℕ → List ℕ
  untils_in untils = fold until_with untils (session_starts_in all t)

  -- The channels in a cycle: sessions that go have gone, words that are offered are accepted, and
  -- receivers take as their rows say.
  abbrev pub channel_states_in : List ℕ → List ChannelState → List ChannelState
  channel_states_in untils channel_states =
      fold taking_with
      (fold (accepted_with t untils) (fold gone_with channel_states (session_starts_in all t))
      (offers_in all t))
      (takes_in all t)

  -- The words that are outside of all sessions, with those of the cycle.
  abbrev pub outside_in : List ℕ → List ℕ → List ℕ
  outside_in untils outside = fold (outside_with t untils) outside (offers_in all t)

-- The components, once they are given what a cycle brings but for its events: tables have the rows that
-- enter, and channels what is for them.
abbrev pub ready_in : NetworkState → ComponentsState
ready_in old = record old.components {
  parts = fold entered_with old.components.parts (enterings_in old.routing old.time);
  channel_states =
      channel_states_in old.stimuli old.time (untils_in old.stimuli old.time old.untils)
      old.components.channel_states;
}

-- A network behind one more cycle.
unfoldable pub stepped : NetworkState → NetworkState
stepped old =
    let untils = untils_in old.stimuli old.time old.untils in
    record old {
      components = state_behind (events_in old.stimuli old.time) old.time (ready_in old);
      untils = untils;
      outside = outside_in old.stimuli old.time untils old.outside;
      replaced = old.replaced
          ++ map (λ session_start. slice_index_or old.components.channel_states
          (channel_number session_start.channel) no_channel_state)
          (session_starts_in old.stimuli old.time);
      time = old.time + 1;
    }

-- Behind so many.
unfoldable pub played : ℕ → NetworkState → NetworkState
played zero all = all
played (suc cycles) all = stepped (played cycles all)

-- The components of inputs before the first cycle, with the first rows in the tables of their routers.
abbrev pub routed_components : Inputs → Routing → ComponentsState
routed_components inputs routing =
    let loaded = loaded_as (kind_of routing) inputs in
    record loaded { parts = entered_first routing loaded.parts }

-- The network of inputs before the first cycle, whose routers send on so.
unfoldable pub first_network : Inputs → Routing → NetworkState
first_network inputs routing = record {
  stimuli = stimuli_of inputs;
  routing = routing;
  components = routed_components inputs routing;
  untils = replicate (2 * length inputs.app.connections) 0;
  outside = replicate (2 * length inputs.app.connections) 0;
  replaced = [];
  log = first_log inputs;
  time = 0;
}
