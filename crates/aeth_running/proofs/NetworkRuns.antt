-- The network of accepted inputs runs, before each cycle and behind the last.
use Rattle.std.proofs.Common.{◌≡◌, ◌≤◌, ◌<◌, ◌∙◌, ◌+◌, ◌*◌, ℕ, zero, suc, Some, length, map}
use Rattle.std.proofs.Common.{slice_get, subst, arith, take}
use Rattle.aeth_base.specs.declared.ids.Channel.{Channel}
use Rattle.aeth_components.specs.Components.{wirings_of}
use Rattle.aeth_report.specs.{Flows.sessions_in, Sessions.go_of, declared.session.Session.Session}
use Rattle.aeth_report.specs.{SessionList.listed_at, SessionList.session_list}
use Rattle.aeth_invariant.specs.{WellRouted.AreWellRouted, Carried.words_from}
use Rattle.aeth_invariant.specs.{RoutedSessions.flow_at, RoutedSessions.server_at}
use Rattle.aeth_accepted.specs.Inputs.{AreAccepted, Inputs, run_of}
use Rattle.aeth_accepted.proofs.SoundRuns.{AreSpans}
use Rattle.aeth_routed_sessions.specs.RoutedSessions.{routed_sessions_of}
use Rattle.aeth_schedule.specs.{SessionStarts.session_starts_of, Rooms.rooms_of}
use Rattle.aeth_schedule.specs.{Switching.loaded_of, Values.values_of}
use Rattle.aeth_refinement.specs.{Events.AreEvents, Places.ArePlaced}
use Rattle.aeth_running.proofs.NumberedSessions.{Before, Behind, Same, goes-first, ordered}
use Rattle.aeth_running.proofs.FirstNetworks.{first-plays}
use Rattle.aeth_running.proofs.SessionsInUse.{GoesNow, goes-now}
use Rattle.aeth_running.proofs.NetworkLaws.{BeginningLaws, CycleLaws}
use Rattle.aeth_running.proofs.NetworkSteps.{Plays, plays-on, then-prepares}
use Rattle.aeth_running.proofs.Played.{played-time}
use Rattle.aeth_running.specs.Network.{NetworkState, first_network, played, ready_in, stepped}
use Rattle.aeth_running.specs.Routing.{IsRoutingFor, Routing}
use Rattle.aeth_running.specs.Running.{HoldsBefore, IsServing}
use Rattle.aeth_stimuli.specs.{Stimuli.AreStimuli, Stimuli.stimuli_of, Events.events_in}
use Rattle.aeth_stimuli.specs.{Loaded.loaded_components, OnChip.HaveRooms, OnChip.IsOver}
use Rattle.aeth_stimuli.specs.{Sessions.IsBefore, Sessions.as_session_start, Sessions.channel_of}
use Rattle.aeth_stimuli.specs.{Sessions.first_of, Sessions.listed_session_start}

module _ (begin : BeginningLaws) (laws : CycleLaws)
    (routed_sessions : (inputs : Inputs) → AreAccepted inputs
    → AreWellRouted (routed_sessions_of inputs))
    (spans : (inputs : Inputs) (accepted : AreAccepted inputs) → AreSpans inputs accepted)
    (numbers : (inputs : Inputs) → AreAccepted inputs
    → map as_session_start (session_starts_of inputs)
    ≡ map (listed_session_start inputs)
    (take (length (session_starts_of inputs)) (session_list (run_of inputs))))
    (early-goes : (inputs : Inputs) → AreAccepted inputs → (c : ℕ)
    → c < length (session_list (run_of inputs))
    → go_of (run_of inputs).spans (listed_at (run_of inputs) c).stay.opening < inputs.cycles
    → c < length (session_starts_of inputs))
    (sessions-apart : (inputs : Inputs) → AreAccepted inputs → (c i j : ℕ) (one other : Session)
    → c < length inputs.app.connections → i < j
    → slice_get (sessions_in (run_of inputs) c) i ≡ Some one
    → slice_get (sessions_in (run_of inputs) c) j ≡ Some other → IsBefore one other)
    (words-placed : (inputs : Inputs) → AreAccepted inputs
    → ArePlaced (routed_sessions_of inputs) (first_of inputs)
    (length (values_of inputs.words (length inputs.app.connections))))
    (values-placed : (inputs : Inputs) → AreAccepted inputs → (c : ℕ)
    → c < (routed_sessions_of inputs).count
    → words_from (values_of inputs.words (length inputs.app.connections)) (first_of inputs c)
    (length (flow_at (routed_sessions_of inputs) c).values)
    ≡ (flow_at (routed_sessions_of inputs) c).values)
    (events-are : (inputs : Inputs) → AreAccepted inputs → (t : ℕ) → t < inputs.cycles
    → AreEvents (routed_sessions_of inputs) (t + 1) (events_in (stimuli_of inputs) t))
    (loaded-are : (inputs : Inputs) → AreAccepted inputs
    → AreEvents (routed_sessions_of inputs) 0 (loaded_of inputs))
    (is-over : (inputs : Inputs) → AreAccepted inputs
    → IsOver (routed_sessions_of inputs) inputs.chip)
    (have-rooms : (inputs : Inputs) → AreAccepted inputs
    → HaveRooms (routed_sessions_of inputs) (rooms_of inputs))
    (stimuli-are : (inputs : Inputs) → AreAccepted inputs
    → AreStimuli (2 * length inputs.app.connections)
    (length (values_of inputs.words (length inputs.app.connections)))
    (wirings_of (loaded_components inputs)) (stimuli_of inputs))
    (inputs : Inputs) (accepted : AreAccepted inputs) (routing : Routing)
    (routes : IsRoutingFor inputs routing) where
  ok : AreWellRouted (routed_sessions_of inputs)
  ok = routed_sessions inputs accepted

  -- No two sessions of a channel go in one cycle.
  go-once : (c d : ℕ) → c < (routed_sessions_of inputs).count
      → d < (routed_sessions_of inputs).count
      → channel_of inputs c ≡ channel_of inputs d
      → (server_at (routed_sessions_of inputs) c).go ≡ (server_at (routed_sessions_of inputs) d).go
      → c ≡ d
  go-once c d known_c known_d same go =
      let first = goes-first inputs accepted (spans inputs accepted) ok in
      elim (ordered inputs (sessions-apart inputs accepted) c d known_c known_d same) [
        | Same is ↦ is
        | Before order ↦ let goes = first c known_c in absurd (omega (arith, order, goes, go))
        | Behind order ↦ let goes = first d known_d in absurd (omega (arith, order, goes, go))
      ]

  goes : (t : ℕ) → t < inputs.cycles → (channel : Channel)
      → channel.conn.0 < length inputs.app.connections → GoesNow inputs t channel
  goes t early channel known = goes-now inputs t channel early (numbers inputs accepted)
      (early-goes inputs accepted) go-once

  -- From each cycle to the next.
  plays-next : (t : ℕ) → Plays inputs routing (played t (first_network inputs routing))
      → (played t (first_network inputs routing)).time ≡ t → t < inputs.cycles
      → Plays inputs routing (stepped (played t (first_network inputs routing)))
  plays-next t plays time early =
      plays-on inputs routing routes accepted.design.chip_is laws ok accepted.pulls.order accepted.cycles (words-placed inputs accepted)
      (values-placed inputs accepted) (stimuli-are inputs accepted).channel_states
      (ordered inputs (sessions-apart inputs accepted))
      (goes-first inputs accepted (spans inputs accepted) ok) goes (events-are inputs accepted)
      (played t (first_network inputs routing)) plays (omega (arith, time, early))

  pub plays-by : (t : ℕ) → t ≤ inputs.cycles → Plays inputs routing (played t (first_network inputs routing))
  unfolding played
  plays-by zero within = first-plays inputs begin accepted.design.chip_is ok
      (is-over inputs accepted) (have-rooms inputs accepted) (loaded-are inputs accepted) routing
  plays-by (suc t) within =
      plays-next t (plays-by t (omega (arith, within))) (played-time inputs routing t) (omega (arith, within))

  -- So its components run.
  pub running : (t : ℕ) → t ≤ inputs.cycles
      → HoldsBefore inputs t (played t (first_network inputs routing)).components
  running t within =
      subst (λ (n : ℕ). HoldsBefore inputs n (played t (first_network inputs routing)).components)
      (played-time inputs routing t) (plays-by t within).running

  -- And once they are ready for a cycle they serve the sessions in use.
  serving-at : (network : NetworkState) → Plays inputs routing network → network.time < inputs.cycles
      → IsServing inputs network.time network.components (ready_in network)
  serving-at network plays early =
      let prepares = then-prepares inputs routing routes accepted.design.chip_is laws ok accepted.pulls.order accepted.cycles
      (words-placed inputs accepted) (values-placed inputs accepted)
      (stimuli-are inputs accepted).channel_states (ordered inputs (sessions-apart inputs accepted))
      (goes-first inputs accepted (spans inputs accepted) ok) goes (events-are inputs accepted)
      network plays early in
      record {
        enqueued = plays.running.enqueued;
        prepares = prepares;
        follows = laws.prepared (routed_sessions_of inputs) ok (channel_of inputs) network.time
            plays.running.enqueued network.components (ready_in network) plays.running.runs
            prepares;
      }

  pub serving : (t : ℕ) → t < inputs.cycles
      → let all = played t (first_network inputs routing) in
      IsServing inputs t all.components (ready_in all)
  serving t early =
      let all = played t (first_network inputs routing) in
      let time = played-time inputs routing t in
      subst (λ (n : ℕ). IsServing inputs n all.components (ready_in all)) time
      (serving-at all (plays-by t (omega (arith, early))) (omega (arith, time, early)))
