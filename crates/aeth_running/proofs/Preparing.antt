-- The components of a network, once they are ready for a cycle, are prepared for it as the routed
-- sessions of accepted inputs asks.
use Rattle.std.proofs.Common.{◌≡◌, ◌≤◌, ◌<◌, ◌⊎◌, ◌∙◌, ◌+◌, ◌*◌, ℕ, List, Some, length, slice_get}
use Rattle.std.proofs.Common.{refl, sym, ap, subst, inl, inr, arith}
use Rattle.std.proofs.lemmas.Option.{same_Some, slice_get_within}
use Rattle.aeth_base.specs.declared.ids.Channel.{Channel}
use Rattle.aeth_trace.specs.{Channels.channel_number, Receivers.pull_at}
use Rattle.aeth_components.specs.declared.channel_state.ChannelState.{ChannelState}
use Rattle.aeth_server.specs.PrivateServer.{arrived}
use Rattle.aeth_report.{specs.Channels.opposite, specs.declared.session.Close.Close}
use Rattle.aeth_report.{specs.declared.session.Session.Session, specs.SessionList.ChannelSession}
use Rattle.aeth_report.{specs.SessionList.listed_at, proofs.SessionNumbers.partner-is}
use Rattle.aeth_invariant.specs.Carried.{words_from}
use Rattle.aeth_invariant.specs.RoutedSessions.{IsOpenSession, flow_at, server_at}
use Rattle.aeth_accepted.specs.Inputs.{Inputs, row_at, run_of}
use Rattle.aeth_routed_sessions.specs.RoutedSessions.{routed_sessions_of, row_in}
use Rattle.aeth_schedule.specs.Values.{before_of, start_of}
use Rattle.aeth_schedule.specs.declared.session_start.SessionStart.{SessionStart}
use Rattle.aeth_refinement.specs.{WiredFor.IsEndOf, Routed.AreRoutedBy, Running.HasStart}
use Rattle.aeth_refinement.specs.{Running.Prepares, Running.Starts, Served.IsChannelStateOf}
use Rattle.aeth_running.proofs.ChannelNumbers.{channel-of}
use Rattle.aeth_running.proofs.ChannelRows.{pull-by}
use Rattle.aeth_running.proofs.ChannelStates.{StandsAt, Unused, Used}
use Rattle.aeth_running.proofs.NumberedSessions.{Before, Behind, Ordered, Same, close-within}
use Rattle.aeth_running.proofs.NumberedSessions.{placed-known, session_at}
use Rattle.aeth_running.proofs.ChannelStateLookups.{length-channel_states_in}
use Rattle.aeth_running.proofs.ReadyChannels.{IsReady, Loads, Stays}
use Rattle.aeth_running.proofs.RouterTables.{but-entered}
use Rattle.aeth_running.specs.{Network.NetworkState, Network.ready_in, Network.untils_in}
use Rattle.aeth_running.specs.{Routing.enterings_in, Running.IsLatest}
use Rattle.aeth_stimuli.specs.Sessions.{SessionStartData, as_session_start, channel_of, first_of}
use Rattle.aeth_stimuli.specs.Sessions.{session_start_of}

-- A channel that a session has loaded has the session.
module _ (inputs : Inputs) (words : List ℕ)
    (values-placed : (c : ℕ) → c < (routed_sessions_of inputs).count
    → words_from words (first_of inputs c) (length (flow_at (routed_sessions_of inputs) c).values)
    ≡ (flow_at (routed_sessions_of inputs) c).values)
    (channel : Channel) (c : ℕ) (known : c < (routed_sessions_of inputs).count)
    (own : (listed_at (run_of inputs) c).channel ≡ channel)
    (early : (server_at (routed_sessions_of inputs) c).go ≤ inputs.cycles) (going : SessionStart)
    (same : as_session_start going ≡ session_start_of inputs channel (session_at inputs c))
    (channel_state : ChannelState)
    (is : channel_state
    ≡ record going.channel_state {
      accepted = channel_state.accepted;
      pull =
          channel_state.pull;
    }) where
  abbrev session : Session
  session = session_at inputs c

  -- What the loaded channel has is what the session goes with.
  loaded : {X : Type 0} (part : ChannelState → X)
      → ((one : ChannelState) (accepted pull : ℕ)
      → part (record one { accepted = accepted; pull = pull }) ≡ part one)
      → part channel_state
      ≡ part (session_start_of inputs channel (session_at inputs c)).channel_state
  loaded part kept = ap part is ∙ kept going.channel_state channel_state.accepted channel_state.pull
      ∙ ap (λ (one : SessionStartData). part one.channel_state) same

  sends : IsEndOf (routed_sessions_of inputs) c channel_state.sender
  sends = record {
    ni = loaded (λ one. one.sender.ni.0) (λ one accepted pull. refl)
        ∙ ap (λ (one : Channel). (row_at (run_of inputs).design session.group.0 one).ni.0) (sym own);
    queue = loaded (λ one. one.sender.queue) (λ one accepted pull. refl)
        ∙ ap (λ (one : Channel). (row_at (run_of inputs).design session.group.0 one).queue) (sym own);
  }

  receives : IsEndOf (routed_sessions_of inputs) ((routed_sessions_of inputs).opposite c)
      channel_state.receiver
  receives =
      let back = (partner-is (run_of inputs) c known).is in
      record {
        ni = loaded (λ one. one.receiver.ni.0) (λ one accepted pull. refl)
            ∙ ap (λ (one : Channel).
            (row_at (run_of inputs).design session.group.0 (opposite one)).ni.0) (sym own)
            ∙ ap (λ (one : ChannelSession). (row_in (run_of inputs) one).ni.0) (sym back);
        queue = loaded (λ one. one.receiver.queue) (λ one accepted pull. refl)
            ∙ ap (λ (one : Channel).
            (row_at (run_of inputs).design session.group.0 (opposite one)).queue) (sym own)
            ∙ ap (λ (one : ChannelSession). (row_in (run_of inputs) one).queue) (sym back);
      }

  pub first-loaded : channel_state.first ≡ first_of inputs c
  first-loaded = loaded (λ one. one.first) (λ one accepted pull. refl)
      ∙ ap (λ (one : Channel). start_of inputs.words one
      + before_of inputs.words one session.go) (sym own)

  pub enqueued-loaded : channel_state.enqueued ≡ 0
  enqueued-loaded = loaded (λ one. one.enqueued) (λ one accepted pull. refl)

  pub landed-loaded : channel_state.landed ≡ 0
  landed-loaded = loaded (λ one. one.landed) (λ one accepted pull. refl)

  pub taken-loaded : channel_state.taken ≡ 0
  taken-loaded = loaded (λ one. one.taken) (λ one accepted pull. refl)

  pub channel_state-loaded : IsChannelStateOf (routed_sessions_of inputs) words c channel_state
  channel_state-loaded = record {
    sender = sends;
    receiver = receives;
    go = loaded (λ one. one.go) (λ one accepted pull. refl);
    fin = loaded (λ one. one.fin) (λ one accepted pull. refl)
        ∙ ap (λ (close : Close). close.fin) (close-within inputs.cycles session early);
    values = ap (λ (first : ℕ). words_from words first
        (length (flow_at (routed_sessions_of inputs) c).values))
        first-loaded ∙ values-placed c known;
  }

module _ (inputs : Inputs) (ordered : (c d : ℕ) → c < (routed_sessions_of inputs).count
    → d < (routed_sessions_of inputs).count → channel_of inputs c ≡ channel_of inputs d
    → Ordered inputs c d)
    (goes-first : (c : ℕ) → c < (routed_sessions_of inputs).count
    → (server_at (routed_sessions_of inputs) c).go
    < (server_at (routed_sessions_of inputs) c).finish) (t : ℕ) where
  -- The latest session of a channel is the one that is in use.
  pub latest-used : (c d : ℕ) → c < (routed_sessions_of inputs).count
      → IsOpenSession (routed_sessions_of inputs) c t
      → IsLatest inputs (t + 1) d → channel_of inputs d ≡ channel_of inputs c → d ≡ c
  latest-used c d h going latest on =
      let goes = going.goes in
      let unfinished = going.unfinished in
      let gone = latest.gone in
      let later = latest.last c h (omega (arith, goes)) (sym on) in
      let first = goes-first d latest.known in
      elim (ordered c d h latest.known (sym on)) [
        | Same same ↦ sym same
        | Before over ↦ absurd (omega (arith, over, gone, unfinished))
        | Behind over ↦ absurd (omega (arith, over, later, first))
      ]

  -- No session goes over the channel of one that is in use.
  pub none-goes : (c d : ℕ) → c < (routed_sessions_of inputs).count
      → IsOpenSession (routed_sessions_of inputs) c t
      → d < (routed_sessions_of inputs).count → (server_at (routed_sessions_of inputs) d).go ≡ t
      → channel_of inputs d ≡ channel_of inputs c → d ≡ c
  none-goes c d h going known go on =
      let goes = going.goes in
      let unfinished = going.unfinished in
      let first = goes-first d known in
      elim (ordered c d h known (sym on)) [
        | Same same ↦ sym same
        | Before over ↦ absurd (omega (arith, over, go, unfinished))
        | Behind over ↦ absurd (omega (arith, over, goes, go, first))
      ]

module _ (inputs : Inputs) (t : ℕ) (early : t < inputs.cycles) (network : NetworkState)
    (routed : AreRoutedBy (routed_sessions_of inputs) t (ready_in network).parts)
    (values-placed : (c : ℕ) → c < (routed_sessions_of inputs).count
    → words_from network.components.words (first_of inputs c)
    (length (flow_at (routed_sessions_of inputs) c).values)
    ≡ (flow_at (routed_sessions_of inputs) c).values)
    (channel_states_are : length network.components.channel_states
    ≡ 2 * length inputs.app.connections)
    (before : (channel : Channel) → channel.conn.0 < length inputs.app.connections → ChannelState)
    (before-at : (channel : Channel) (known : channel.conn.0 < length inputs.app.connections)
    → slice_get network.components.channel_states (channel_number channel)
    ≡ Some (before channel known))
    (readies : (channel : Channel) (known : channel.conn.0 < length inputs.app.connections)
    → IsReady inputs t channel network (before channel known))
    (ordered : (c d : ℕ) → c < (routed_sessions_of inputs).count
    → d < (routed_sessions_of inputs).count → channel_of inputs c ≡ channel_of inputs d
    → Ordered inputs c d)
    (goes-first : (c : ℕ) → c < (routed_sessions_of inputs).count
    → (server_at (routed_sessions_of inputs) c).go
    < (server_at (routed_sessions_of inputs) c).finish) where
  -- A session that goes has its channel.
  starts-at : (c : ℕ) → c < (routed_sessions_of inputs).count
      → IsOpenSession (routed_sessions_of inputs) c t
      → (server_at (routed_sessions_of inputs) c).go ≡ t
      → HasStart (routed_sessions_of inputs) (channel_of inputs) network.components.words c t
      (ready_in network).channel_states
  starts-at c h going goes =
      let channel = (listed_at (run_of inputs) c).channel in
      let known = placed-known inputs c h in
      let one = readies channel known in
      elim one.changed [
        | Stays never after grows idle ↦ absurd (never c h refl goes)
        | Loads d known_d own go loaded is same after accepts ↦
            let within : (server_at (routed_sessions_of inputs) d).go ≤ inputs.cycles =
            omega (arith, go, early) in
            let words = network.components.words in
            subst (λ (n : ℕ). HasStart (routed_sessions_of inputs) (channel_of inputs) words n t
            (ready_in network).channel_states)
            (none-goes inputs ordered goes-first t c d h going known_d go (ap channel_number own))
            (record {
              channel_state = one.channel_state;
              at = ap (λ (other : Channel).
                  slice_get (ready_in network).channel_states (channel_number other)) own ∙ one.at;
              of = channel_state-loaded inputs words values-placed channel d known_d own within
                  loaded same
                  one.channel_state after;
              fed = record {
                accepted = accepts;
                pull = one.pull_is ∙ pull-by inputs channel t
                    ∙ ap (λ (other : Channel). pull_at inputs.pulls other t) (sym own);
              };
              enqueued = enqueued-loaded inputs words values-placed channel d known_d own within
                  loaded
                  same one.channel_state after;
              landed = landed-loaded inputs words values-placed channel d known_d own within loaded
                  same one.channel_state after;
              taken = taken-loaded inputs words values-placed channel d known_d own within loaded same
                  one.channel_state after;
            })
      ]

  -- What a session that went before has accepted.
  accepted-at : (c : ℕ) → c < (routed_sessions_of inputs).count
      → IsOpenSession (routed_sessions_of inputs) c t
      → (until : ℕ) (channel_state : ChannelState)
      → StandsAt inputs (t + 1) (listed_at (run_of inputs) c).channel until channel_state
      → channel_state.accepted ≡ arrived (server_at (routed_sessions_of inputs) c) (t + 1)
  accepted-at c h going until channel_state (Unused none zero_until) =
      let goes = going.goes in absurd (none c h refl (omega (arith, goes)))
  accepted-at c h going until channel_state (Used d latest on until_is accepts first) =
      accepts ∙ ap (λ (n : ℕ). arrived (server_at (routed_sessions_of inputs) n) (t + 1))
      (latest-used inputs ordered goes-first t c d h going latest on)

  stays-at : (c : ℕ) (channel_state : ChannelState) → c < (routed_sessions_of inputs).count
      → IsOpenSession (routed_sessions_of inputs) c t
      → (server_at (routed_sessions_of inputs) c).go < t
      → slice_get network.components.channel_states (channel_of inputs c) ≡ Some channel_state
      → slice_get (ready_in network).channel_states (channel_of inputs c)
      ≡ Some (record channel_state {
        accepted = arrived (server_at (routed_sessions_of inputs) c) (t + 1);
        pull = (server_at (routed_sessions_of inputs) c).pull t;
      })
  stays-at c channel_state h going went at =
      let channel = (listed_at (run_of inputs) c).channel in
      let known = placed-known inputs c h in
      let one = readies channel known in
      elim one.changed [
        | Stays never after grows idle ↦
            let old : before channel known ≡ channel_state =
            same_Some (before channel known) channel_state (sym (before-at channel known) ∙ at) in
            let accepts = accepted-at c h going one.until_now one.channel_state one.stands in
            let pulls = one.pull_is ∙ pull-by inputs channel t in
            one.at ∙ ap (λ (other : ChannelState). Some other)
            (after ∙ (λ i. record (old i) { accepted = accepts i; pull = pulls i }))
        | Loads d known_d own go loaded is same after accepts ↦
            let one_session = none-goes inputs ordered goes-first t c d h going known_d go
            (ap channel_number own) in
            let gone : (server_at (routed_sessions_of inputs) d).go
            ≡ (server_at (routed_sessions_of inputs) c).go =
            ap (λ (n : ℕ). (server_at (routed_sessions_of inputs) n).go) one_session in
            absurd (omega (arith, gone, go, went))
      ]

  keeps-at : (number : ℕ) (channel_state : ChannelState)
      → slice_get network.components.channel_states number ≡ Some channel_state
      → Starts (routed_sessions_of inputs) (channel_of inputs) t number
      ⊎ ((after : ChannelState) × (slice_get (ready_in network).channel_states number ≡ Some after)
      × (after ≡ record channel_state { accepted = after.accepted; pull = after.pull }))
  keeps-at number channel_state at =
      let within = slice_get_within network.components.channel_states number channel_state at in
      let numbered = channel-of (length inputs.app.connections) number
      (omega (arith, within, channel_states_are)) in
      let one = readies numbered.channel numbered.known in
      elim one.changed [
        | Loads d known_d own go loaded is same after accepts ↦
            let first = goes-first d known_d in
            inl (record {
              session = d;
              known = known_d;
              going = record { goes = omega (arith, go); unfinished = omega (arith, go, first) };
              goes = go;
              place = ap channel_number own ∙ numbered.is;
            })
        | Stays never after grows idle ↦
            let old : before numbered.channel numbered.known ≡ channel_state =
            same_Some (before numbered.channel numbered.known) channel_state
            (sym (before-at numbered.channel numbered.known)
            ∙ ap (λ (n : ℕ). slice_get network.components.channel_states n) numbered.is ∙ at) in
            let there : slice_get (ready_in network).channel_states number
            ≡ Some one.channel_state =
            ap (λ (n : ℕ). slice_get (ready_in network).channel_states n) (sym numbered.is)
            ∙ one.at in
            let same : one.channel_state
            ≡ record channel_state {
              accepted = one.channel_state.accepted;
              pull =
                  one.channel_state.pull;
            } =
            after ∙ ap (λ (other : ChannelState).
            record other { accepted = one.channel_state.accepted; pull = one.channel_state.pull })
            old in
            inr (one.channel_state, there, same)
      ]

  pub prepares : Prepares (routed_sessions_of inputs) (channel_of inputs) t network.components
      (ready_in network)
  prepares = record {
    parts = but-entered (enterings_in network.routing network.time) network.components.parts;
    routed = routed;
    wires = refl;
    words = refl;
    landings = refl;
    flits = refl;
    starts = starts-at;
    stays = stays-at;
    count = length-channel_states_in network.stimuli network.time
        (untils_in network.stimuli network.time network.untils) network.components.channel_states;
    keeps = keeps-at;
  }
