-- Channels that are ready for a cycle are sound: each has room for the words that it has accepted.
use Rattle.std.proofs.Common.{◌≡◌, ◌≤◌, ◌<◌, ◌∙◌, ◌+◌, ◌*◌, ℕ, List, [], ◌∷◌, Some, get_or, length}
use Rattle.std.proofs.Common.{slice_get, sym, ap, subst, arith, ◌==◌, nat_lt}
use Rattle.std.proofs.lemmas.List.{length-map, Elements.All-filter, Elements.All-head}
use Rattle.std.proofs.lemmas.List.{Sums.count_by-le-length, Sums.length-filter}
use Rattle.std.proofs.lemmas.Option.{same_Some, slice_get-get_or}
use Rattle.std.specs.List.{All}
use Rattle.aeth_base.specs.declared.ids.Channel.{Channel}
use Rattle.aeth_trace.specs.Channels.{channel_number}
use Rattle.aeth_components.specs.{Components.IsComponents, Components.wirings_of, Wirings.Wiring}
use Rattle.aeth_components.specs.{Wirings.IsWired, Wirings.wiring_of, ChannelStates.IsChannelState}
use Rattle.aeth_components.specs.{declared.channel_state.ChannelState.ChannelState}
use Rattle.aeth_server.specs.PrivateServer.{accepted, arrived}
use Rattle.aeth_invariant.specs.{WellRouted.AreWellRouted, RoutedSessions.server_at}
use Rattle.aeth_accepted.specs.Inputs.{Inputs}
use Rattle.aeth_routed_sessions.specs.RoutedSessions.{routed_sessions_of}
use Rattle.aeth_schedule.specs.{SessionStarts.session_starts_of, Values.before_of, Values.start_of}
use Rattle.aeth_schedule.specs.{declared.session_start.SessionStart.SessionStart}
use Rattle.aeth_refinement.{proofs.Routed.wirings-but_tables, specs.Places.ArePlaced}
use Rattle.aeth_running.proofs.{ChannelNumbers.channel-of, ChannelStates.StandsAt}
use Rattle.aeth_running.proofs.{ChannelStates.Unused, ChannelStates.Used}
use Rattle.aeth_running.proofs.{NumberedSessions.session_at, SessionsInUse.session_start_now}
use Rattle.aeth_running.proofs.{ChannelStateLookups.length-channel_states_in}
use Rattle.aeth_running.proofs.{ReadyChannels.IsChanged, ReadyChannels.IsReady, ReadyChannels.Loads}
use Rattle.aeth_running.proofs.{ReadyChannels.Stays, RouterTables.but-entered}
use Rattle.aeth_running.specs.Network.{NetworkState, session_starts_in, ready_in, untils_in}
use Rattle.aeth_running.specs.Routing.{enterings_in}
use Rattle.aeth_stimuli.specs.Sessions.{SessionStartData, first_of}
use Rattle.aeth_stimuli.specs.Stimuli.{is_over, stimuli_of}

module _ (inputs : Inputs) (ok : AreWellRouted (routed_sessions_of inputs)) (words : ℕ)
    (placed : ArePlaced (routed_sessions_of inputs) (first_of inputs) words) where
  -- The words of a session that have arrived are within those of all.
  arrived-within : (c t : ℕ) → c < (routed_sessions_of inputs).count
      → first_of inputs c + arrived (server_at (routed_sessions_of inputs) c) t ≤ words
  arrived-within c t known =
      let server = server_at (routed_sessions_of inputs) c in
      let all = accepted server in
      let room = placed.within c known in
      let values = (ok.given c known).values in
      let count = length-filter (λ (a : ℕ). nat_lt a t) all in
      let few = count_by-le-length (λ (a : ℕ). nat_lt a t) all in
      omega (arith, room, values, count, few)

  module _ (parts t : ℕ) (channel : Channel) (before : ChannelState)
      (sound : IsChannelState words parts before)
      (session_starts-sound : All
      (λ session_start. IsChannelState words parts session_start.channel_state)
      (session_starts_of inputs)) where
    -- A channel that goes on.
    kept-within : (until : ℕ) (after : ChannelState)
        → after ≡ record before { accepted = after.accepted; pull = after.pull }
        → (until ≤ t → after.accepted ≡ before.accepted)
        → StandsAt inputs (t + 1) channel until after
        → before.first + after.accepted ≤ words
    kept-within until after is idle (Unused none zero_until) =
        let same = idle (omega (arith, zero_until)) in
        let room = sound.within in
        omega (arith, same, room)
    kept-within until after is idle (Used c latest on until_is accepts first) =
        let room = arrived-within c (t + 1) latest.known in
        let same = ap (λ (one : ChannelState). one.first) is in
        omega (arith, room, accepts, first, same)

    -- A session that goes.
    session_start-sound : (session_start : SessionStart)
        → session_start_now inputs t channel ≡ session_start ∷ []
        → IsChannelState words parts session_start.channel_state
    session_start-sound session_start is =
        let now = session_starts_in (stimuli_of inputs) t in
        let over = is_over (channel_number channel) in
        All-head (λ (one : SessionStart). IsChannelState words parts one.channel_state)
        session_start []
        (subst (λ (some : List SessionStart). All
        (λ (one : SessionStart). IsChannelState words parts one.channel_state) some) is
        (All-filter over (λ (one : SessionStart). IsChannelState words parts one.channel_state) now
        (All-filter (λ (one : SessionStart). one.channel_state.go == t)
        (λ (one : SessionStart). IsChannelState words parts one.channel_state)
        (session_starts_of inputs) session_starts-sound)))

    channel_state-sound : (until : ℕ) (after : ChannelState)
        → StandsAt inputs (t + 1) channel until after
        → IsChanged inputs t channel before until after → IsChannelState words parts after
    channel_state-sound until after stands (Stays never is grows idle) =
        let enqueued = sound.enqueued in
        subst (IsChannelState words parts) (sym is) (record {
          sender = sound.sender;
          receiver = sound.receiver;
          taken = sound.taken;
          landed = sound.landed;
          enqueued = omega (arith, enqueued, grows);
          within = kept-within until after is idle stands;
        })
    channel_state-sound until after stands
        (Loads c known own go session_start now same is accepts) =
        let one = session_start-sound session_start now in
        let nothing = ap (λ (other : SessionStartData). other.channel_state.enqueued) same in
        let room = arrived-within c (t + 1) known in
        let first : session_start.channel_state.first ≡ first_of inputs c =
        ap (λ (other : SessionStartData). other.channel_state.first) same
        ∙ ap (λ (other : Channel). start_of inputs.words other
        + before_of inputs.words other (session_at inputs c).go) (sym own) in
        subst (IsChannelState words parts) (sym is) (record {
          sender = one.sender;
          receiver = one.receiver;
          taken = one.taken;
          landed = one.landed;
          enqueued = omega (arith, nothing);
          within = omega (arith, room, first, accepts);
        })

module _ (inputs : Inputs) (ok : AreWellRouted (routed_sessions_of inputs)) (t : ℕ)
    (network : NetworkState)
    (placed : ArePlaced (routed_sessions_of inputs) (first_of inputs)
    (length network.components.words))
    (session_starts-sound : All (λ session_start. IsChannelState (length network.components.words)
    (length network.components.parts) session_start.channel_state) (session_starts_of inputs))
    (channel_states_are : length network.components.channel_states
    ≡ 2 * length inputs.app.connections)
    (before : (channel : Channel) → channel.conn.0 < length inputs.app.connections → ChannelState)
    (before-at : (channel : Channel) (known : channel.conn.0 < length inputs.app.connections)
    → slice_get network.components.channel_states (channel_number channel)
    ≡ Some (before channel known))
    (readies : (channel : Channel) (known : channel.conn.0 < length inputs.app.connections)
    → IsReady inputs t channel network (before channel known)) where
  -- What holds of the components holds once they are ready.
  pub ready-sound : IsComponents network.components → IsComponents (ready_in network)
  ready-sound sound =
      let words = length network.components.words in
      let parts = length network.components.parts in
      let channel_states = network.components.channel_states in
      let then = (ready_in network).channel_states in
      let count : length then ≡ length channel_states =
      length-channel_states_in network.stimuli network.time
      (untils_in network.stimuli network.time network.untils) channel_states in
      let wirings : wirings_of (ready_in network) ≡ wirings_of network.components =
      wirings-but_tables (ready_in network).parts network.components.parts
      (but-entered (enterings_in network.routing network.time) network.components.parts) in
      let same : length (ready_in network).parts ≡ parts =
      sym (length-map (ready_in network).parts wiring_of) ∙ ap length wirings
      ∙ length-map network.components.parts wiring_of in
      record {
        wired = subst (λ (list : List Wiring). IsWired list (length network.components.wires))
            (sym wirings) sound.wired;
        channel_states =
            subst (λ (n : ℕ). All (IsChannelState words n) then) (sym same) (λ k default within.
            let numbered = channel-of (length inputs.app.connections) k
            (omega (arith, within, count, channel_states_are)) in
            let one = readies numbered.channel numbered.known in
            let place = numbered.is in
            let here = ap (λ (n : ℕ). slice_get channel_states n) (sym place)
            ∙ before-at numbered.channel numbered.known in
            let was : get_or channel_states k default ≡ before numbered.channel numbered.known =
            same_Some (get_or channel_states k default) (before numbered.channel numbered.known)
            (sym (slice_get-get_or channel_states k default (omega (arith, within, count))) ∙ here)
            in
            let now : one.channel_state ≡ get_or then k default =
            same_Some one.channel_state (get_or then k default)
            (sym one.at ∙ ap (λ (n : ℕ). slice_get then n) place
            ∙ slice_get-get_or then k default within) in
            subst (IsChannelState words parts) now
            (channel_state-sound inputs ok words placed parts t numbered.channel
            (before numbered.channel numbered.known)
            (subst (IsChannelState words parts) was
            (sound.channel_states k default (omega (arith, within, count)))) session_starts-sound
            one.until_now one.channel_state
            one.stands one.changed));
        landings = sound.landings;
        flits = sound.flits;
        few = sound.few;
      }
