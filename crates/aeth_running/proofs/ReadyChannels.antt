-- A channel in a cycle, once the sessions have gone and the words are accepted: a session is loaded, or
-- it goes on.
use Rattle.std.proofs.Common.{◌≡◌, ◌≤◌, ◌<◌, ◌∙◌, ◌+◌, ℕ, List, [], ◌∷◌, Some, filter, fold, length}
use Rattle.std.proofs.Common.{map, slice_get, refl, sym, ap, inl, inr, arith, ◌==◌, if◌then◌else◌}
use Rattle.std.proofs.Common.{nat_lt, le-ltb, lt-ltb}
use Rattle.std.proofs.lemmas.Bool.{cases_lt}
use Rattle.std.specs.List.Sorted.{IsNonDecreasingBy}
use Rattle.aeth_base.specs.declared.ids.Channel.{Channel}
use Rattle.aeth_trace.specs.{Channels.channel_number, Words.words_on}
use Rattle.aeth_components.specs.declared.channel_state.ChannelState.{ChannelState}
use Rattle.aeth_server.specs.PrivateServer.{arrived}
use Rattle.aeth_invariant.specs.RoutedSessions.{server_at}
use Rattle.aeth_accepted.specs.Inputs.{Inputs, run_of}
use Rattle.aeth_routed_sessions.specs.RoutedSessions.{routed_sessions_of}
use Rattle.aeth_schedule.specs.Values.{before_of, start_of}
use Rattle.aeth_schedule.specs.declared.session_start.SessionStart.{SessionStart}
use Rattle.aeth_running.proofs.Arrivals.{between, is_between, more-in, none-by, none-in}
use Rattle.aeth_running.proofs.Arrivals.{past-between}
use Rattle.aeth_running.proofs.ChannelNumbers.{channel-same}
use Rattle.aeth_running.proofs.ChannelRows.{offers-now, pull-now, pull_before}
use Rattle.aeth_running.proofs.ChannelStates.{HasChannel, StandsAt, Unused, Used}
use Rattle.aeth_running.proofs.NumberedSessions.{session_at, until-same}
use Rattle.aeth_running.proofs.SessionsInUse.{GoesNow, NoneGoes, OneGoes, session_start_now}
use Rattle.aeth_running.proofs.ChannelStateLookups.{entered, channel_state-in, until-in}
use Rattle.aeth_running.specs.Network.{NetworkState, channel_states_in, offers_in, ready_in}
use Rattle.aeth_running.specs.Network.{takes_in, untils_in}
use Rattle.aeth_stimuli.specs.Sessions.{SessionStartData, as_session_start, channel_of, first_of}
use Rattle.aeth_stimuli.specs.Sessions.{session_start_of}
use Rattle.aeth_stimuli.specs.Stimuli.{Stimuli, Take, stimuli_of}
use Rattle.aeth_report.specs.SessionList.{listed_at}

-- The words of a channel that a session accepts in a cycle.
module _ (inputs : Inputs) (c : ℕ) (channel : Channel)
    (own : (listed_at (run_of inputs) c).channel ≡ channel) (t : ℕ)
    (early : t < inputs.cycles) where
  abbrev offered : ℕ
  offered = length (filter (λ offer. offer.number == channel_number channel)
      (offers_in (stimuli_of inputs) t))

  abbrev cycles_on : Channel → List ℕ
  cycles_on one = map (λ row. row.cycle) (words_on inputs.words one)

  offered-is : offered
      ≡ length (filter (λ cycle. cycle == t) (cycles_on (listed_at (run_of inputs) c).channel))
  offered-is = offers-now inputs t early channel
      ∙ ap (λ (one : Channel). length (filter (λ cycle. cycle == t) (cycles_on one))) (sym own)

  -- From its go on those before it stops are accepted.
  pub arrives-more : (server_at (routed_sessions_of inputs) c).go ≤ t
      → arrived (server_at (routed_sessions_of inputs) c) t
      + (if nat_lt t (server_at (routed_sessions_of inputs) c).until then
      length (filter (λ offer. offer.number == channel_number channel)
      (offers_in (stimuli_of inputs) t)) else 0)
      ≡ arrived (server_at (routed_sessions_of inputs) c) (t + 1)
  arrives-more goes =
      let server = server_at (routed_sessions_of inputs) c in
      let test = is_between server.go server.until in
      let mine = cycles_on (listed_at (run_of inputs) c).channel in
      elim (cases_lt t server.until) [
        | inl before ↦
            let more = more-in test t (between server.go server.until t goes before) mine in
            let same = offered-is in
            rw (lt-ltb t server.until before) (omega (arith, more, same))
        | inr past ↦
            let none = none-in test t (past-between server.go server.until t past) mine in
            rw (le-ltb t server.until past) (omega (arith, none))
      ]

  -- As it goes nothing has arrived yet.
  pub arrives-none : t ≤ (server_at (routed_sessions_of inputs) c).go
      → arrived (server_at (routed_sessions_of inputs) c) t ≡ 0
  arrives-none soon =
      let server = server_at (routed_sessions_of inputs) c in
      none-by server.go server.until t soon (cycles_on (listed_at (run_of inputs) c).channel)

module _ (inputs : Inputs) (t : ℕ) (channel : Channel) where
  -- The channel in the cycle has a session that goes in it, of which nothing is done, or it is as before
  -- but for what it has accepted and how its receiver takes.
  pub data IsChanged (before : ChannelState) (until : ℕ) (after : ChannelState) : Type 0 where
    Loads : (c : ℕ) → c < (routed_sessions_of inputs).count
        → (listed_at (run_of inputs) c).channel ≡ channel
        → (server_at (routed_sessions_of inputs) c).go ≡ t
        → (session_start : SessionStart) → session_start_now inputs t channel ≡ session_start ∷ []
        → as_session_start session_start ≡ session_start_of inputs channel (session_at inputs c)
        → after ≡ record session_start.channel_state {
          accepted = after.accepted;
          pull =
              after.pull;
        }
        → after.accepted ≡ arrived (server_at (routed_sessions_of inputs) c) (t + 1)
        → IsChanged before until after
    Stays : ((c : ℕ) → c < (routed_sessions_of inputs).count
        → channel_of inputs c ≡ channel_number channel
        → (server_at (routed_sessions_of inputs) c).go ≡ t → ⊥)
        → after ≡ record before { accepted = after.accepted; pull = after.pull }
        → before.accepted ≤ after.accepted
        → (until ≤ t → after.accepted ≡ before.accepted)
        → IsChanged before until after

  -- A network has the channel so, once it is ready for the cycle.
  pub record IsReady (network : NetworkState) (before : ChannelState) : Type 0 where
    pub channel_state : ChannelState
    pub until_now : ℕ
    pub at : slice_get (ready_in network).channel_states (channel_number channel)
        ≡ Some channel_state
    pub until_at : slice_get (untils_in network.stimuli network.time network.untils)
        (channel_number channel) ≡ Some until_now
    pub pull_is : channel_state.pull ≡ pull_before inputs channel (t + 1)
    pub stands : StandsAt inputs (t + 1) channel until_now channel_state
    pub changed : IsChanged before until_now channel_state

  module _ (early : t < inputs.cycles) (order : IsNonDecreasingBy (λ row. row.cycle) inputs.pulls)
      (goes : GoesNow inputs t channel) (network : NetworkState)
      (stimuli_are : network.stimuli ≡ stimuli_of inputs) (time_is : network.time ≡ t)
      (has : HasChannel inputs t network channel) where
    abbrev all : Stimuli
    all = stimuli_of inputs

    abbrev n : ℕ
    n = channel_number channel

    abbrev takes : List Take
    takes = filter (λ take. take.number == channel_number channel) (takes_in (stimuli_of inputs) t)

    -- The channel in the cycle, and until when it accepts words, where these sessions go.
    abbrev until_by : List SessionStart → ℕ
    until_by session_starts =
        fold (λ before session_start. session_start.until) has.until session_starts

    abbrev channel_state_by : List SessionStart → ChannelState
    channel_state_by session_starts =
        let gone = fold entered has.channel_state session_starts in
        record gone {
          accepted = gone.accepted + (if nat_lt t (until_by session_starts)
              then length (filter (λ offer. offer.number == n) (offers_in all t)) else 0);
          pull = fold (λ before take. take.pull) gone.pull takes;
        }

    until-by : (session_starts : List SessionStart)
        → session_start_now inputs t channel ≡ session_starts
        → slice_get (untils_in network.stimuli network.time network.untils) n
        ≡ Some (until_by session_starts)
    until-by session_starts are =
        (λ i. slice_get (untils_in (stimuli_are i) (time_is i) network.untils) n)
        ∙ until-in all t n network.untils has.until has.until_at
        ∙ ap (λ (some : List SessionStart). Some (until_by some)) are

    channel_state-by : (session_starts : List SessionStart)
        → session_start_now inputs t channel ≡ session_starts
        → slice_get (ready_in network).channel_states n ≡ Some (channel_state_by session_starts)
    channel_state-by session_starts are =
        let untils = untils_in all t network.untils in
        (λ i. slice_get (channel_states_in (stimuli_are i) (time_is i)
        (untils_in (stimuli_are i) (time_is i) network.untils) network.components.channel_states) n)
        ∙ channel_state-in all t n untils (until_by (session_start_now inputs t channel))
        network.components.channel_states
        has.channel_state (until-in all t n network.untils has.until has.until_at) has.at
        ∙ ap (λ (some : List SessionStart). Some (channel_state_by some)) are

    pulls : fold (λ before take. take.pull) has.channel_state.pull takes
        ≡ pull_before inputs channel (t + 1)
    pulls = ap (λ (pull : ℕ). fold (λ before take. take.pull) pull takes) has.pull_is
        ∙ pull-now inputs t early channel order

    -- Where no session goes.
    module _ (none : session_start_now inputs t channel ≡ [])
        (never : (c : ℕ) → c < (routed_sessions_of inputs).count
        → channel_of inputs c ≡ channel_number channel
        → (server_at (routed_sessions_of inputs) c).go ≡ t → ⊥) where
      earlier : (c : ℕ) → c < (routed_sessions_of inputs).count
          → channel_of inputs c ≡ channel_number channel
          → (server_at (routed_sessions_of inputs) c).go < t + 1
          → (server_at (routed_sessions_of inputs) c).go < t
      earlier c h on soon = elim (cases_lt (server_at (routed_sessions_of inputs) c).go t) [
        | inl before ↦ before
        | inr now ↦ absurd (never c h on (omega (arith, soon, now)))
      ]

      stays : StandsAt inputs t channel has.until has.channel_state
          → StandsAt inputs (t + 1) channel has.until (channel_state_by [])
      stays (Unused no_session zero_until) =
          Unused (λ c h on soon. no_session c h on (earlier c h on soon)) zero_until
      stays (Used c latest on until accepts first) =
          let own = channel-same (listed_at (run_of inputs) c).channel channel on in
          let gone = latest.gone in
          Used c (record {
            known = latest.known;
            gone = omega (arith, gone);
            last = λ d h soon same. latest.last d h (earlier d h (same ∙ on) soon) same;
          }) on until
          ((λ i. accepts i + (if nat_lt t (until i)
          then length (filter (λ offer. offer.number == n) (offers_in all t)) else 0))
          ∙ arrives-more inputs c channel own t early (omega (arith, gone))) first

      ready-none : IsReady network has.channel_state
      ready-none = record {
        channel_state = channel_state_by [];
        until_now = has.until;
        at = channel_state-by [] none;
        until_at = until-by [] none;
        pull_is = pulls;
        stands = stays has.stands;
        changed = Stays never refl (omega arith) (λ past. rw (le-ltb t has.until past) (omega arith));
      }

    -- Where one does.
    module _ (c : ℕ) (known : c < (routed_sessions_of inputs).count)
        (own : (listed_at (run_of inputs) c).channel ≡ channel)
        (go : (server_at (routed_sessions_of inputs) c).go ≡ t) (session_start : SessionStart)
        (is : session_start_now inputs t channel ≡ session_start ∷ [])
        (same : as_session_start session_start
        ≡ session_start_of inputs channel (session_at inputs c)) where
      until-is : session_start.until ≡ (server_at (routed_sessions_of inputs) c).until
      until-is = ap (λ (one : SessionStartData). one.until) same
          ∙ until-same inputs.cycles (session_at inputs c)

      accepts-now : (channel_state_by (session_start ∷ [])).accepted
          ≡ arrived (server_at (routed_sessions_of inputs) c) (t + 1)
      accepts-now =
          let nothing : session_start.channel_state.accepted ≡ 0 =
          ap (λ (one : SessionStartData). one.channel_state.accepted) same in
          let none = arrives-none inputs c channel own t early (omega (arith, go)) in
          let first = nothing ∙ sym none in
          (λ i. first i + (if nat_lt t (until-is i)
          then length (filter (λ offer. offer.number == n) (offers_in all t)) else 0))
          ∙ arrives-more inputs c channel own t early (omega (arith, go))

      first-is : session_start.channel_state.first ≡ first_of inputs c
      first-is = ap (λ (one : SessionStartData). one.channel_state.first) same
          ∙ (λ i. start_of inputs.words (sym own i)
          + before_of inputs.words (sym own i) (session_at inputs c).go)

      ready-one : IsReady network has.channel_state
      ready-one = record {
        channel_state = channel_state_by (session_start ∷ []);
        until_now = session_start.until;
        at = channel_state-by (session_start ∷ []) is;
        until_at = until-by (session_start ∷ []) is;
        pull_is = pulls;
        stands = Used c (record {
          known = known;
          gone = omega (arith, go);
          last = λ d h soon on. omega (arith, soon, go);
        }) (ap channel_number own) until-is accepts-now first-is;
        changed = Loads c known own go session_start is same refl accepts-now;
      }

    pub ready : IsReady network has.channel_state
    ready = elim goes [
      | NoneGoes none never ↦ ready-none none never
      | OneGoes c known own go session_start is same ↦
          ready-one c known own go session_start is same
    ]
