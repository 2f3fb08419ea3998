-- A network that runs on accepted inputs: its components run, and each channel has its latest session.
-- One more cycle keeps this.
use Rattle.std.proofs.Common.{◌≡◌, ◌≤◌, ◌<◌, ◌∙◌, ◌+◌, ℕ, List, Some, length, slice_get, refl, sym}
use Rattle.std.proofs.Common.{ap, subst, arith, fold}
use Rattle.std.proofs.lemmas.{List.length-map, Option.same_Some}
use Rattle.std.specs.List.{All, Sorted.IsNonDecreasingBy}
use Rattle.aeth_base.specs.{Limits.max_cycles, declared.ids.Channel.Channel}
use Rattle.aeth_chip.specs.Chip.{IsChip}
use Rattle.aeth_trace.specs.Channels.{channel_number}
use Rattle.aeth_components.specs.{Components.IsComponents, Components.wirings_of, Wirings.wiring_of}
use Rattle.aeth_components.specs.{ChannelStates.IsChannelState}
use Rattle.aeth_components.specs.{declared.channel_state.ChannelState.ChannelState}
use Rattle.aeth_components.proofs.KeptLemmas.{channel_state-kept}
use Rattle.aeth_invariant.specs.WellRouted.{AreWellRouted}
use Rattle.aeth_invariant.specs.Carried.{words_from}
use Rattle.aeth_invariant.specs.RoutedSessions.{IsOpenSession, flow_at, server_at}
use Rattle.aeth_accepted.specs.Inputs.{Inputs, run_of}
use Rattle.aeth_routed_sessions.specs.RoutedSessions.{routed_sessions_of}
use Rattle.aeth_schedule.specs.{SessionStarts.session_starts_of, Values.values_of}
use Rattle.aeth_schedule.specs.{declared.session_start.SessionStart.SessionStart}
use Rattle.aeth_refinement.specs.{Events.AreEvents, Places.ArePlaced, Running.Prepares}
use Rattle.aeth_running.proofs.ChannelStates.{HasChannel, StandsAt, Unused, Used}
use Rattle.aeth_running.proofs.NumberedSessions.{Before, Behind, Ordered, Same, placed-known}
use Rattle.aeth_running.proofs.SessionsInUse.{GoesNow}
use Rattle.aeth_running.proofs.KeptChannelStates.{cycle-behind, kept_of, channel_states-kept}
use Rattle.aeth_running.proofs.NetworkLaws.{CycleLaws}
use Rattle.aeth_running.proofs.Preparing.{prepares}
use Rattle.aeth_running.proofs.ReadyChannels.{IsReady, ready}
use Rattle.aeth_running.proofs.ReadySound.{ready-sound}
use Rattle.aeth_running.proofs.RoutedNetworks.{tables-routed}
use Rattle.aeth_running.proofs.RouterTables.{HaveTables, tables-behind, tables-ready}
use Rattle.aeth_running.proofs.RunningCycles.{running-on}
use Rattle.aeth_running.specs.FirstLog.{first_log}
use Rattle.aeth_running.specs.Network.{NetworkState, ready_in, state_behind, stepped}
use Rattle.aeth_running.specs.Routing.{IsRoutingFor, Routing, entered_with, enterings_in, kind_of}
use Rattle.aeth_running.specs.Routing.{rows_at, rows_before}
use Rattle.aeth_running.specs.Running.{IsLatest, HoldsBefore}
use Rattle.aeth_stimuli.specs.{Events.events_in, Loaded.loaded_components, Sessions.channel_of}
use Rattle.aeth_stimuli.specs.{Sessions.first_of, Stimuli.Stimuli, Stimuli.stimuli_of}
use Rattle.aeth_report.specs.SessionList.{listed_at}

-- A network of these inputs that runs.
pub record Plays (inputs : Inputs) (routing : Routing) (network : NetworkState) : Type 0 where
  pub stimuli_are : network.stimuli ≡ stimuli_of inputs
  pub routing_is : network.routing ≡ routing
  pub log_is : network.log ≡ first_log inputs
  pub running : HoldsBefore inputs network.time network.components
  pub tables : HaveTables inputs.chip (kind_of routing) (rows_before routing network.time)
      network.components.parts
  pub channels : (channel : Channel) → channel.conn.0 < length inputs.app.connections
      → HasChannel inputs network.time network channel

-- What a cycle keeps of a channel's state.
stands-same : (inputs : Inputs) (t : ℕ) (channel : Channel) (until : ℕ) (one other : ChannelState)
    → one.accepted ≡ other.accepted → one.first ≡ other.first
    → StandsAt inputs t channel until one → StandsAt inputs t channel until other
stands-same inputs t channel until one other accepts first (Unused none zero_until) =
    Unused none zero_until
stands-same inputs t channel until one other accepts first (Used c latest on until_is is place) =
    Used c latest on until_is (sym accepts ∙ is) (sym first ∙ place)

module _ (inputs : Inputs) (routing : Routing) (routes : IsRoutingFor inputs routing)
    (is_chip : IsChip inputs.chip) (laws : CycleLaws)
    (ok : AreWellRouted (routed_sessions_of inputs))
    (order : IsNonDecreasingBy (λ row. row.cycle) inputs.pulls) (short : inputs.cycles ≤ max_cycles)
    (words-placed : ArePlaced (routed_sessions_of inputs) (first_of inputs)
    (length (values_of inputs.words (length inputs.app.connections))))
    (values-placed : (c : ℕ) → c < (routed_sessions_of inputs).count
    → words_from (values_of inputs.words (length inputs.app.connections)) (first_of inputs c)
    (length (flow_at (routed_sessions_of inputs) c).values)
    ≡ (flow_at (routed_sessions_of inputs) c).values)
    (session_starts-sound : All (λ going.
    IsChannelState (length (values_of inputs.words (length inputs.app.connections)))
    (length (wirings_of (loaded_components inputs))) going.channel_state)
    (session_starts_of inputs))
    (ordered : (c d : ℕ) → c < (routed_sessions_of inputs).count
    → d < (routed_sessions_of inputs).count
    → channel_of inputs c ≡ channel_of inputs d → Ordered inputs c d)
    (goes-first : (c : ℕ) → c < (routed_sessions_of inputs).count
    → (server_at (routed_sessions_of inputs) c).go
    < (server_at (routed_sessions_of inputs) c).finish)
    (goes : (t : ℕ) → t < inputs.cycles → (channel : Channel)
    → channel.conn.0 < length inputs.app.connections → GoesNow inputs t channel)
    (events-are : (t : ℕ) → t < inputs.cycles
    → AreEvents (routed_sessions_of inputs) (t + 1) (events_in (stimuli_of inputs) t)) where
  -- Two sessions that are the latest of a channel are one.
  latest-same : (t c d : ℕ) → IsLatest inputs t c → IsLatest inputs t d
      → channel_of inputs d ≡ channel_of inputs c → d ≡ c
  latest-same t c d one two on =
      let low = one.last d two.known two.gone on in
      let high = two.last c one.known one.gone (sym on) in
      let first = goes-first c one.known in
      let second = goes-first d two.known in
      elim (ordered c d one.known two.known (sym on)) [
        | Same same ↦ sym same
        | Before over ↦ absurd (omega (arith, over, low, first))
        | Behind over ↦ absurd (omega (arith, over, high, second))
      ]

  module _ (network : NetworkState) (plays : Plays inputs routing network)
      (early : network.time < inputs.cycles) where
    abbrev t : ℕ
    t = network.time

    before : (channel : Channel) → channel.conn.0 < length inputs.app.connections → ChannelState
    before channel known = (plays.channels channel known).channel_state

    before-at : (channel : Channel) (known : channel.conn.0 < length inputs.app.connections)
        → slice_get network.components.channel_states (channel_number channel)
        ≡ Some (before channel known)
    unfolding before
    before-at channel known = (plays.channels channel known).at

    readies : (channel : Channel) (known : channel.conn.0 < length inputs.app.connections)
        → IsReady inputs t channel network (before channel known)
    unfolding before
    readies channel known = ready inputs t channel early order (goes t early channel known) network
        plays.stimuli_are refl (plays.channels channel known)

    -- Once it is ready for the cycle its routers have the rows in force.
    then-tables : HaveTables inputs.chip (kind_of routing) (rows_at routing t)
        (ready_in network).parts
    then-tables =
        let parts = network.components.parts in
        subst (λ (one : Routing). HaveTables inputs.chip (kind_of routing) (rows_at routing t)
        (fold entered_with parts (enterings_in one t))) (sym plays.routing_is)
        (tables-ready inputs routing routes t parts plays.tables)

    pub then-prepares : Prepares (routed_sessions_of inputs) (channel_of inputs) t
        network.components
        (ready_in network)
    then-prepares =
        let words = sym plays.running.words in
        prepares inputs t early network
        (tables-routed inputs routing routes is_chip t early (ready_in network).parts then-tables)
        (subst (λ (all : List ℕ). (c : ℕ) → c < (routed_sessions_of inputs).count
        → words_from all (first_of inputs c) (length (flow_at (routed_sessions_of inputs) c).values)
        ≡ (flow_at (routed_sessions_of inputs) c).values) words values-placed)
        plays.running.channel_states before before-at readies ordered goes-first

    parts-same : length (wirings_of (loaded_components inputs)) ≡ length network.components.parts
    parts-same = ap length (sym plays.running.wirings)
        ∙ length-map network.components.parts wiring_of

    then-sound : IsComponents (ready_in network)
    then-sound =
        let words = sym plays.running.words in
        ready-sound inputs ok t network
        (subst (λ (all : List ℕ). ArePlaced (routed_sessions_of inputs) (first_of inputs)
        (length all)) words
        words-placed)
        (subst (λ (all : List ℕ). All (λ (going : SessionStart).
        IsChannelState (length all) (length network.components.parts) going.channel_state)
        (session_starts_of inputs)) words
        (subst (λ (n : ℕ). All (λ (going : SessionStart).
        IsChannelState (length (values_of inputs.words (length inputs.app.connections))) n
        going.channel_state)
        (session_starts_of inputs)) parts-same session_starts-sound))
        plays.running.channel_states before before-at readies plays.running.sound

    -- The first word of the latest session is at its place.
    stands-first : (c : ℕ) → IsLatest inputs (t + 1) c → (until : ℕ) (channel_state : ChannelState)
        → StandsAt inputs (t + 1) (listed_at (run_of inputs) c).channel until channel_state
        → channel_state.first ≡ first_of inputs c
    stands-first c latest until channel_state (Unused none zero_until) =
        absurd (none c latest.known refl latest.gone)
    stands-first c latest until channel_state (Used d other on until_is accepts first) =
        first ∙ ap (first_of inputs) (latest-same (t + 1) c d latest other on)

    firsts : (c : ℕ) → IsLatest inputs (t + 1) c → (channel_state : ChannelState)
        → slice_get (ready_in network).channel_states (channel_of inputs c) ≡ Some channel_state
        → channel_state.first ≡ first_of inputs c
    firsts c latest channel_state at =
        let channel = (listed_at (run_of inputs) c).channel in
        let one = readies channel (placed-known inputs c latest.known) in
        let same : one.channel_state ≡ channel_state =
        same_Some one.channel_state channel_state (sym one.at ∙ at) in
        sym (ap (λ (other : ChannelState). other.first) same)
        ∙ stands-first c latest one.until_now one.channel_state one.stands

    -- A session in use is the latest of its channel.
    latest-session_start : (c : ℕ) → c < (routed_sessions_of inputs).count
        → IsOpenSession (routed_sessions_of inputs) c t
        → IsLatest inputs (t + 1) c
    latest-session_start c h going =
        let from = going.goes in
        let unfinished = going.unfinished in
        record {
          known = h;
          gone = omega (arith, from);
          last = λ d known soon on.
              let first = goes-first d known in
              elim (ordered c d h known (sym on)) [
                | Same same ↦
                    let go = ap (λ (n : ℕ). (server_at (routed_sessions_of inputs) n).go) same in
                    omega (arith, go)
                | Before over ↦ absurd (omega (arith, over, soon, unfinished))
                | Behind over ↦ omega (arith, over, first)
              ];
        }

    then-runs : HoldsBefore inputs (t + 1)
        (state_behind (events_in network.stimuli network.time) network.time (ready_in network))
    then-runs =
        let size = plays.running.sound.landings in
        let words = ap (λ (all : List ℕ). length all) plays.running.words in
        running-on inputs laws ok t (omega (arith, early, short)) network.components (ready_in network)
        (events_in network.stimuli network.time) plays.running then-prepares then-sound
        (subst (λ (all : Stimuli). AreEvents (routed_sessions_of inputs) (t + 1)
        (events_in all network.time)) (sym plays.stimuli_are) (events-are t early))
        (subst (ArePlaced (routed_sessions_of inputs) (first_of inputs)) (sym (size ∙ words))
        words-placed)
        goes-first firsts
        (λ c channel_state h going at. firsts c (latest-session_start c h going) channel_state at)

    -- They have them behind it.
    then-behind : HaveTables inputs.chip (kind_of routing) (rows_at routing t)
        (state_behind (events_in network.stimuli network.time) network.time (ready_in network)).parts
    then-behind =
        let events = events_in network.stimuli network.time in
        tables-behind inputs.chip (kind_of routing) (rows_at routing t) events t (ready_in network)
        (state_behind events t (ready_in network)) (cycle-behind events t (ready_in network)) then-tables

    -- Each channel behind the cycle.
    then-channel : (channel : Channel) → channel.conn.0 < length inputs.app.connections
        → HasChannel inputs (network.time + 1) (stepped network) channel
    unfolding stepped
    then-channel channel known =
        let one = readies channel known in
        let events = events_in network.stimuli network.time in
        let (after, there, same) = channel_state-kept kept_of (ready_in network).channel_states
        (state_behind events network.time (ready_in network)).channel_states
        (sym (channel_states-kept events network.time (ready_in network))) (channel_number channel)
        one.channel_state
        one.at in
        record {
          channel_state = after;
          until = one.until_now;
          at = there;
          until_at = one.until_at;
          pull_is = sym (ap (λ (channel_state : ChannelState). channel_state.pull) same)
              ∙ one.pull_is;
          stands = stands-same inputs (t + 1) channel one.until_now one.channel_state after
              (ap (λ (channel_state : ChannelState). channel_state.accepted) same)
              (ap (λ (channel_state : ChannelState). channel_state.first) same)
              one.stands;
        }

    -- So the network runs on.
    pub plays-on : Plays inputs routing (stepped network)
    unfolding stepped
    plays-on = record {
      stimuli_are = plays.stimuli_are;
      routing_is = plays.routing_is;
      log_is = plays.log_is;
      running = then-runs;
      tables = then-behind;
      channels = then-channel;
    }
