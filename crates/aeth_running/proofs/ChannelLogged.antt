-- What is logged of a channel is what the log of the run says.
use Rattle.std.proofs.Common.{◌≡◌, ◌≤◌, ◌<◌, ◌∙◌, ℕ, suc, ◌*◌, List, [], ◌∷◌, Some, drop, filter}
use Rattle.std.proofs.Common.{length, map, slice_get, refl, sym, ap, arith, nat_lt, option_map}
use Rattle.std.proofs.Common.{slice_index, slice_index_or, ltb-true, length-append, length-drop}
use Rattle.std.proofs.lemmas.{List.length-map, Option.same_Some, Option.slice_get-map, Simd.map-map}
use Rattle.std.specs.List.Sorted.{IsNonDecreasingBy}
use Rattle.aeth_base.{specs.declared.ids.Channel.Channel, proofs.Filters.filter-map}
use Rattle.aeth_trace.specs.{Channels.channel_number, Words.words_on}
use Rattle.aeth_report.specs.{Flows.Flow, Flows.flow_of, Flows.flows_on, Flows.sessions_in}
use Rattle.aeth_report.specs.{Log.LogData, Log.SessionData, RunLog.channel_log, RunLog.flow_log}
use Rattle.aeth_report.specs.{RunLog.outside_of, declared.session.Session.Session, Sound.IsSound}
use Rattle.aeth_report.proofs.{SessionMeetings.mapped_at, StaysAlone.at-Contains}
use Rattle.aeth_components.specs.declared.channel_state.ChannelState.{ChannelState}
use Rattle.aeth_accepted.specs.Inputs.{AreAccepted, Inputs, run_of}
use Rattle.aeth_schedule.specs.SessionStarts.{session_starts_of}
use Rattle.aeth_schedule.specs.declared.session_start.SessionStart.{SessionStart}
use Rattle.aeth_running.specs.{FirstLog.first_channel, FirstLog.first_session}
use Rattle.aeth_running.specs.{Network.first_network, Network.played, Running.HoldsBefore}
use Rattle.aeth_running.specs.{Logged.channel_logged, Logged.last_channel_states}
use Rattle.aeth_running.specs.{Logged.session_logged, Logged.sessions_logged, Routing.Routing}
use Rattle.aeth_running.proofs.{InOrder.below, InOrder.passes-at, LastChannelStates.goer-at}
use Rattle.aeth_running.proofs.{LastChannelStates.session_starts-count, LastChannelStates.logged-at}
use Rattle.aeth_running.proofs.{OutsideLogged.outside-is, Played.played-log}
use Rattle.aeth_running.proofs.{Replaced.channel_state_before, Replaced.last-channel_states-are}
use Rattle.aeth_running.proofs.{SessionCycles.accept-alone, SessionCycles.ended-server}
use Rattle.aeth_running.proofs.{SessionLogged.session-is, Untils.accepted-until}
use Rattle.aeth_stimuli.specs.{Stimuli.session_starts_over, Loaded.no_channel_state}
use Rattle.aeth_stimuli.specs.{Sessions.IsBefore, Sessions.SessionStartData}
use Rattle.aeth_stimuli.specs.{Sessions.as_session_start, Sessions.session_start_of}

-- Sessions that are logged, each with its own channel state.
logged-each : (cycles : ℕ) (landings : List ℕ) (firsts : List SessionData)
    (channel_states : List ChannelState)
    (logs : List SessionData) → length firsts ≤ length channel_states → length logs ≡ length firsts
    → ((i : ℕ) (first : SessionData) (channel_state : ChannelState) (log : SessionData)
    → slice_get firsts i ≡ Some first → slice_get channel_states i ≡ Some channel_state
    → slice_get logs i ≡ Some log
    → session_logged cycles landings first channel_state ≡ log)
    → sessions_logged cycles landings firsts channel_states ≡ logs
logged-each cycles landings [] channel_states [] few same each = refl
logged-each cycles landings [] channel_states (log ∷ logs) few same each = absurd (omega arith)
logged-each cycles landings (first ∷ firsts) [] logs few same each = absurd (omega arith)
logged-each cycles landings (first ∷ firsts) (channel_state ∷ channel_states) [] few same each =
    absurd (omega arith)
logged-each cycles landings (first ∷ firsts) (channel_state ∷ channel_states) (log ∷ logs) few same
    each =
    let head = each 0 first channel_state log refl refl refl in
    let rest = logged-each cycles landings firsts channel_states logs (omega arith) (omega arith)
    (λ i. each (suc i)) in
    λ q. head q ∷ rest q

module _ (inputs : Inputs) (routing : Routing) (accepted : AreAccepted inputs) (sound : IsSound (run_of inputs))
    (running : (t : ℕ) → t ≤ inputs.cycles
    → HoldsBefore inputs t (played t (first_network inputs routing)).components)
    (ordered : IsNonDecreasingBy (λ session_start. session_start.channel_state.go)
    (session_starts_of inputs)) (channel : Channel)
    (known : channel.conn.0 < length inputs.app.connections)
    (within : channel_number channel < 2 * length inputs.app.connections)
    (apart : (i j : ℕ) (one other : Session) → i < j
    → slice_get (sessions_in (run_of inputs) channel.conn.0) i ≡ Some one
    → slice_get (sessions_in (run_of inputs) channel.conn.0) j ≡ Some other → IsBefore one other)
    (session_starts_are : map as_session_start
    (session_starts_over (channel_number channel) (session_starts_of inputs))
    ≡ map (session_start_of inputs channel) (filter (λ session. nat_lt session.go inputs.cycles)
    (sessions_in (run_of inputs) channel.conn.0))) where
  abbrev landings : List ℕ
  landings = (played inputs.cycles (first_network inputs routing)).components.landings

  abbrev session_go : Session → ℕ
  session_go session = session.go

  abbrev goers : List Session
  goers = filter (below session_go inputs.cycles) (sessions_in (run_of inputs) channel.conn.0)

  abbrev session_starts : List SessionStart
  session_starts = session_starts_over (channel_number channel) (session_starts_of inputs)

  abbrev channel_states : List ChannelState
  channel_states =
      last_channel_states (played inputs.cycles (first_network inputs routing))
      (channel_number channel)

  abbrev log_with : Session → SessionData
  log_with session = flow_log inputs.cycles (flow_of (run_of inputs) channel session)

  abbrev first_with : SessionStart → SessionData
  first_with session_start = first_session inputs.words inputs.cycles session_start

  -- Of each session there is a channel state.
  as-many : length (map first_with session_starts) ≤ length channel_states
  as-many =
      let number = channel_number channel in
      let stood = map (channel_state_before inputs routing) session_starts in
      let final = slice_index_or
      (played inputs.cycles (first_network inputs routing)).components.channel_states number
      no_channel_state in
      let size = ap length (last-channel_states-are inputs routing ordered number) in
      let both = length-append (drop 1 stood) (final ∷ []) in
      let short = length-drop 1 stood in
      let count = length-map session_starts (channel_state_before inputs routing) in
      let firsts = length-map session_starts first_with in
      omega arith

  -- What is logged of a session at its place.
  logged-session : (i : ℕ) (session : Session) (session_start : SessionStart)
      (channel_state : ChannelState)
      → slice_get goers i ≡ Some session → slice_get session_starts i ≡ Some session_start
      → slice_get channel_states i ≡ Some channel_state
      → session_logged inputs.cycles landings (first_with session_start) channel_state
      ≡ log_with session
  logged-session i session session_start channel_state at session_start_at channel_state_at =
      let shown : Some (as_session_start session_start)
      ≡ Some (session_start_of inputs channel session) =
      sym (slice_get-map as_session_start session_starts i
      ∙ ap (option_map as_session_start) session_start_at)
      ∙ ap (λ (list : List SessionStartData). slice_get list i) session_starts_are
      ∙ slice_get-map (session_start_of inputs channel) goers i
      ∙ ap (option_map (session_start_of inputs channel)) at in
      let is = same_Some (as_session_start session_start) (session_start_of inputs channel session)
      shown in
      let passes = passes-at (below session_go inputs.cycles)
      (sessions_in (run_of inputs) channel.conn.0) i session at in
      let early = ltb-true session.go inputs.cycles passes in
      let logged =
      logged-at inputs routing sound channel known apart running ordered session_starts_are i
      session channel_state at
      early channel_state_at in
      let has = logged.has in
      let run = running inputs.cycles (omega arith) in
      session-is inputs accepted sound channel session
      (at-Contains (sessions_in (run_of inputs) channel.conn.0) i session
      (goer-at inputs routing sound channel known apart running ordered session_starts_are i session
      at))
      has.number
      (has.server_is ∙ ended-server inputs sound channel known session (omega arith)) landings
      (λ k u. run.notes has.number k u has.within) session_start is channel_state logged.last

  -- The sessions of the channel are logged as the log has them.
  sessions-are : sessions_logged inputs.cycles landings (map first_with session_starts)
      channel_states
      ≡ map (flow_log inputs.cycles) (filter (λ flow. nat_lt flow.server.go inputs.cycles)
      (flows_on (run_of inputs) channel))
  sessions-are =
      let count = session_starts-count inputs routing sound channel known apart running ordered
      session_starts_are in
      let firsts = length-map session_starts first_with in
      let logs = length-map goers log_with in
      logged-each inputs.cycles landings (map first_with session_starts) channel_states
      (map log_with goers) as-many
      (omega arith) (λ i first channel_state log first_at channel_state_at log_at.
      let (session_start, session_start_at, session_start_is) =
      mapped_at first_with session_starts i first first_at in
      let (session, session_at, session_is) = mapped_at log_with goers i log log_at in
      ap (λ (one : SessionData). session_logged inputs.cycles landings one channel_state)
      (sym session_start_is)
      ∙ logged-session i session session_start channel_state session_at session_start_at
      channel_state_at
      ∙ session_is)
      ∙ sym (ap (λ (list : List Flow). map (flow_log inputs.cycles) list)
      (filter-map (λ (flow : Flow). nat_lt flow.server.go inputs.cycles)
      (flow_of (run_of inputs) channel) (sessions_in (run_of inputs) channel.conn.0))
      ∙ map-map (flow_log inputs.cycles) (flow_of (run_of inputs) channel) goers)

  -- So is the channel.
  pub channel-is : channel_logged (played inputs.cycles (first_network inputs routing))
      (channel_number channel)
      (first_channel inputs channel) ≡ channel_log (run_of inputs) channel
  channel-is =
      let all = played inputs.cycles (first_network inputs routing) in
      let cycles : all.log.cycles ≡ inputs.cycles =
      ap (λ (log : LogData). log.cycles) (played-log inputs routing inputs.cycles) in
      let alone = accept-alone inputs sound channel.conn.0 apart in
      let sessions : sessions_logged all.log.cycles landings (map first_with session_starts)
      channel_states
      ≡ map (flow_log inputs.cycles) (filter (λ flow. nat_lt flow.server.go inputs.cycles)
      (flows_on (run_of inputs) channel)) =
      ap (λ n. sessions_logged n landings (map first_with session_starts) channel_states) cycles
      ∙ sessions-are in
      let outside : slice_index all.outside (channel_number channel)
      ≡ outside_of inputs.cycles (flows_on (run_of inputs) channel) (words_on inputs.words channel) =
      outside-is inputs routing channel within
      (accepted-until inputs routing ordered channel within session_starts_are alone) in
      λ q. record { channel = channel; sessions = sessions q; outside = outside q }
