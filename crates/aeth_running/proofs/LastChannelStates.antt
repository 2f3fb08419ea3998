-- How a channel stood at the end of each of its sessions.
use Rattle.std.proofs.Common.{◌≡◌, ◌≤◌, ◌<◌, ◌∙◌, ℕ, zero, suc, ◌+◌, ◌-◌, List, [], ◌∷◌, ◌++◌, Some}
use Rattle.std.proofs.Common.{drop, filter, length, map, min, slice_get, take, sym, ap, subst, inl}
use Rattle.std.proofs.Common.{inr, arith, nat_lt, option_map, slice_index_or, ltb-true, length-drop}
use Rattle.std.proofs.lemmas.{Bool.cases_lt, List.length-map, Option.get_or_from_slice_get}
use Rattle.std.proofs.lemmas.{Option.same_Some, Option.slice_get-get_or, Option.slice_get-map}
use Rattle.std.proofs.lemmas.{Option.slice_get_within}
use Rattle.std.specs.List.Sorted.{IsNonDecreasingBy}
use Rattle.aeth_base.specs.declared.ids.Channel.{Channel}
use Rattle.aeth_server.specs.PrivateServer.{PrivateServer, landed, taken}
use Rattle.aeth_trace.specs.Channels.{channel_number}
use Rattle.aeth_report.specs.{Flows.close_at, Flows.sessions_in, declared.session.Session.Session}
use Rattle.aeth_report.specs.{Sound.IsSound}
use Rattle.aeth_report.proofs.{SessionMeetings.mapped_at, ListOrder.early-first}
use Rattle.aeth_components.specs.declared.channel_state.ChannelState.{ChannelState}
use Rattle.aeth_invariant.specs.RoutedSessions.{server_at}
use Rattle.aeth_accepted.specs.Inputs.{Inputs, run_of}
use Rattle.aeth_routed_sessions.{specs.RoutedSessions.routed_sessions_of, proofs.Flattened.drop-one}
use Rattle.aeth_reconf.proofs.WriteCounts.{before, behind}
use Rattle.aeth_schedule.specs.SessionStarts.{session_starts_of}
use Rattle.aeth_schedule.specs.declared.session_start.SessionStart.{SessionStart}
use Rattle.aeth_stimuli.specs.Stimuli.{session_starts_over}
use Rattle.aeth_stimuli.specs.Loaded.{no_channel_state}
use Rattle.aeth_stimuli.specs.Sessions.{IsBefore, SessionStartData, as_session_start, channel_of}
use Rattle.aeth_stimuli.specs.Sessions.{session_start_of}
use Rattle.aeth_running.specs.{Network.first_network, Network.played, Running.IsLastOf}
use Rattle.aeth_running.specs.{Running.IsLatest, Running.HoldsBefore, Logged.last_channel_states}
use Rattle.aeth_running.specs.{Routing.Routing}
use Rattle.aeth_running.proofs.InOrder.{below, passes-at, past-below}
use Rattle.aeth_running.proofs.Replaced.{channel_state_before, last-channel_states-are}
use Rattle.aeth_running.proofs.SessionCycles.{HasNumber, ended-server, has-number, is-among}
use Rattle.aeth_running.proofs.SessionCycles.{is-over, sessions-ordered}

-- What is among the first items of a list is in it.
taken-at : {X : Type 0} (n : ℕ) (xs : List X) (i : ℕ) (x : X) → slice_get (take n xs) i ≡ Some x
    → slice_get xs i ≡ Some x
taken-at zero xs i x at = absurd (cc at)
taken-at (suc n) [] i x at = absurd (cc at)
taken-at (suc n) (y ∷ xs) zero x at = at
taken-at (suc n) (y ∷ xs) (suc i) x at = taken-at n xs i x at

module _ (inputs : Inputs) (routing : Routing) (sound : IsSound (run_of inputs)) (channel : Channel)
    (known : channel.conn.0 < length inputs.app.connections)
    (apart : (i j : ℕ) (one other : Session) → i < j
    → slice_get (sessions_in (run_of inputs) channel.conn.0) i ≡ Some one
    → slice_get (sessions_in (run_of inputs) channel.conn.0) j ≡ Some other → IsBefore one other)
    (running : (t : ℕ) → t ≤ inputs.cycles
    → HoldsBefore inputs t (played t (first_network inputs routing)).components)
    (ordered : IsNonDecreasingBy (λ session_start. session_start.channel_state.go)
    (session_starts_of inputs))
    (session_starts_are : map as_session_start
    (session_starts_over (channel_number channel) (session_starts_of inputs))
    ≡ map (session_start_of inputs channel)
    (filter (λ session. nat_lt session.go inputs.cycles)
    (sessions_in (run_of inputs) channel.conn.0))) where
  abbrev sessions : List Session
  sessions = sessions_in (run_of inputs) channel.conn.0

  abbrev session_go : Session → ℕ
  session_go session = session.go

  abbrev goers : List Session
  goers = filter (below session_go inputs.cycles) sessions

  abbrev session_starts : List SessionStart
  session_starts = session_starts_over (channel_number channel) (session_starts_of inputs)

  abbrev finish_of : Session → ℕ
  finish_of session = (close_at inputs.cycles session).fin

  -- There are as many as sessions that go within the run.
  pub session_starts-count : length session_starts ≡ length goers
  session_starts-count =
      sym (length-map session_starts as_session_start)
      ∙ ap length session_starts_are
      ∙ length-map goers (session_start_of inputs channel)

  -- A session that goes is at its place among all.
  pub goer-at : (i : ℕ) (session : Session) → slice_get goers i ≡ Some session
      → slice_get sessions i ≡ Some session
  goer-at i session at =
      taken-at (length goers) sessions i session
      (ap (λ (list : List Session). slice_get list i)
      (sym (early-first session_go inputs.cycles sessions
      (sessions-ordered inputs sound channel.conn.0 apart))) ∙ at)

  -- Those that follow go past the end of the run.
  past-goers : (j : ℕ) (session : Session) → slice_get sessions j ≡ Some session → length goers ≤ j
      → inputs.cycles ≤ session.go
  past-goers j session at past =
      past-below session_go inputs.cycles sessions
      (sessions-ordered inputs sound channel.conn.0 apart) j session at past

  -- It is the last before a cycle in which none that follows has gone.
  latest : (i t : ℕ) (session : Session) → slice_get sessions i ≡ Some session → session.go < t
      → session.go ≤ inputs.cycles
      → ((j : ℕ) (other : Session) → i < j → slice_get sessions j ≡ Some other → t ≤ other.go)
      → (has : HasNumber inputs sound channel known session) → IsLatest inputs t has.number
  latest i t session at goes early later has =
      let same = has.server_is in
      let go : (server_at (routed_sessions_of inputs) has.number).go ≡ session.go =
      ap (λ (s : PrivateServer). s.go) same in
      record {
        known = has.within;
        gone = omega arith;
        last = λ d within gone on.
            let one = is-among inputs sound channel known d within (on ∙ has.channel_is) in
            let its = one.go in
            elim (cases_lt i one.place) [
              | inl after ↦
                  let late = later one.place one.session after one.at in absurd (omega arith)
              | inr until ↦
                  let rises = sessions-ordered inputs sound channel.conn.0 apart one.place i session
                  until (slice_get_within sessions i session at) in
                  let here = ap session_go (get_or_from_slice_get sessions i session session at) in
                  let there = ap session_go
                  (get_or_from_slice_get sessions one.place one.session session one.at) in
                  omega arith
            ];
      }

  -- What a routed session left behind is as it is at the end, where it has finished.
  stays-last : (c t : ℕ) (channel_state : ChannelState)
      → (server_at (routed_sessions_of inputs) c).finish ≤ t
      → t ≤ inputs.cycles → IsLastOf inputs t c channel_state
      → IsLastOf inputs inputs.cycles c channel_state
  stays-last c t channel_state over early is =
      let server = server_at (routed_sessions_of inputs) c in
      let same : min t server.finish ≡ min inputs.cycles server.finish = omega arith in
      record {
        first_is = is.first_is;
        landed_is = is.landed_is ∙ ap (λ n. landed server (n + 1)) same;
        taken_is = is.taken_is ∙ ap (taken server) same;
      }

  -- A channel state that a list has at a place is that which is read there.
  read : (channel_states : List ChannelState) (number : ℕ) (channel_state : ChannelState)
      → slice_get channel_states number ≡ Some channel_state
      → slice_index_or channel_states number no_channel_state ≡ channel_state
  read channel_states number channel_state at =
      get_or_from_slice_get channel_states number channel_state no_channel_state at

  -- Before the next session goes, a channel is as the one before it left it.
  replaced-last : (i : ℕ) (session next : Session) (session_start : SessionStart)
      → slice_get goers i ≡ Some session → slice_get goers (suc i) ≡ Some next
      → as_session_start session_start ≡ session_start_of inputs channel next
      → next.go < inputs.cycles
      → (has : HasNumber inputs sound channel known session)
      → IsLastOf inputs inputs.cycles has.number (channel_state_before inputs routing session_start)
  replaced-last i session next session_start at next_at is early has =
      let t = next.go in
      let here = goer-at i session at in
      let there = goer-at (suc i) next next_at in
      let over = is-over inputs sound channel.conn.0 apart i (suc i) session next (omega arith) here
      there in
      let goes = over.goes in
      let accepts = over.accepts in
      let finishes = over.finishes in
      let server = has.server_is ∙ ended-server inputs sound channel known session (omega arith) in
      let finish : (server_at (routed_sessions_of inputs) has.number).finish ≡ finish_of session =
      ap (λ (s : PrivateServer). s.finish) server in
      let later : (j : ℕ) (other : Session) → i < j → slice_get sessions j ≡ Some other
      → t ≤ other.go = λ j other after other_at.
      let rises = sessions-ordered inputs sound channel.conn.0 apart (suc i) j next (omega arith)
      (slice_get_within sessions j other other_at) in
      let one = ap session_go (get_or_from_slice_get sessions (suc i) next next there) in
      let two = ap session_go (get_or_from_slice_get sessions j other next other_at) in
      omega arith in
      let is_latest = latest i t session here (omega arith) (omega arith) later has in
      let run = running t (omega arith) in
      let last = run.last has.number is_latest in
      let go : session_start.channel_state.go ≡ t =
      ap (λ (g : SessionStartData). g.channel_state.go) is in
      let own : channel_number session_start.channel ≡ channel_of inputs has.number =
      ap (λ (g : SessionStartData). channel_number g.channel) is ∙ sym has.channel_is in
      let channel_state : channel_state_before inputs routing session_start ≡ last.channel_state =
      (λ q. slice_index_or (played (go q) (first_network inputs routing)).components.channel_states
      (own q) no_channel_state)
      ∙ read (played t (first_network inputs routing)).components.channel_states
      (channel_of inputs has.number)
      last.channel_state last.at in
      subst (λ (l : ChannelState). IsLastOf inputs inputs.cycles has.number l) (sym channel_state)
      (stays-last has.number t last.channel_state (omega arith) (omega arith) last.is)

  -- At the end of the run it is as the last one left it.
  final-last : (i : ℕ) (session : Session) → slice_get goers i ≡ Some session
      → session.go < inputs.cycles → length goers ≡ suc i
      → (has : HasNumber inputs sound channel known session)
      → IsLastOf inputs inputs.cycles has.number
      (slice_index_or
      (played inputs.cycles (first_network inputs routing)).components.channel_states
      (channel_number channel) no_channel_state)
  final-last i session at early count has =
      let here = goer-at i session at in
      let is_latest = latest i inputs.cycles session here early (omega arith)
      (λ j other after other_at. past-goers j other other_at (omega arith)) has in
      let run = running inputs.cycles (omega arith) in
      let last = run.last has.number is_latest in
      let channel_states =
      (played inputs.cycles (first_network inputs routing)).components.channel_states in
      let channel_state : slice_index_or channel_states (channel_number channel) no_channel_state
      ≡ last.channel_state =
      ap (λ n. slice_index_or channel_states n no_channel_state) (sym has.channel_is)
      ∙ read channel_states (channel_of inputs has.number) last.channel_state last.at in
      subst (λ (l : ChannelState). IsLastOf inputs inputs.cycles has.number l) (sym channel_state)
      last.is

  -- What stands at the place of a session.
  pub record IsLoggedAt (i : ℕ) (channel_state : ChannelState) (session : Session) : Type 0 where
    pub has : HasNumber inputs sound channel known session
    pub last : IsLastOf inputs inputs.cycles has.number channel_state

  pub logged-at : (i : ℕ) (session : Session) (channel_state : ChannelState)
      → slice_get goers i ≡ Some session
      → session.go < inputs.cycles
      → slice_get (last_channel_states (played inputs.cycles (first_network inputs routing))
      (channel_number channel)) i
      ≡ Some channel_state → IsLoggedAt i channel_state session
  logged-at i session channel_state at early channel_state_at =
      let number = channel_number channel in
      let stood = map (channel_state_before inputs routing) session_starts in
      let final = slice_index_or
      (played inputs.cycles (first_network inputs routing)).components.channel_states number
      no_channel_state in
      let has = has-number inputs sound channel known i session (goer-at i session at) in
      let count = session_starts-count in
      let size = length-map session_starts (channel_state_before inputs routing) in
      let within = slice_get_within goers i session at in
      let there : slice_get (drop 1 stood ++ final ∷ []) i ≡ Some channel_state =
      ap (λ (list : List ChannelState). slice_get list i)
      (sym (last-channel_states-are inputs routing ordered number))
      ∙ channel_state_at in
      let short : length (drop 1 stood) ≡ length stood - 1 = length-drop 1 stood in
      elim (cases_lt (suc i) (length goers)) [
        | inr last ↦
            let index : length (drop 1 stood) + 0 ≡ i = omega arith in
            let same : final ≡ channel_state = same_Some final channel_state
            (sym (behind (drop 1 stood) (final ∷ []) 0)
            ∙ ap (slice_get (drop 1 stood ++ final ∷ [])) index ∙ there) in
            record {
              has = has;
              last = subst (λ (l : ChannelState). IsLastOf inputs inputs.cycles has.number l) same
                  (final-last i session at early (omega arith) has);
            }
        | inl more ↦
            let next = slice_index_or goers (suc i) session in
            let next_at = slice_get-get_or goers (suc i) session more in
            let shown : slice_get (map as_session_start session_starts) (suc i)
            ≡ Some (session_start_of inputs channel next) =
            ap (λ (list : List SessionStartData). slice_get list (suc i)) session_starts_are
            ∙ slice_get-map (session_start_of inputs channel) goers (suc i)
            ∙ ap (option_map (session_start_of inputs channel)) next_at in
            let session_start =
            mapped_at as_session_start session_starts (suc i)
            (session_start_of inputs channel next) shown in
            let same : channel_state_before inputs routing session_start.0 ≡ channel_state =
            same_Some (channel_state_before inputs routing session_start.0) channel_state
            (sym (ap (option_map (channel_state_before inputs routing)) session_start.1)
            ∙ sym (slice_get-map (channel_state_before inputs routing) session_starts (suc i))
            ∙ sym (drop-one stood i)
            ∙ sym (before (drop 1 stood) (final ∷ []) i (omega arith)) ∙ there) in
            let goes = passes-at (below session_go inputs.cycles) sessions (suc i) next next_at in
            record {
              has = has;
              last = subst (λ (l : ChannelState). IsLastOf inputs inputs.cycles has.number l) same
                  (replaced-last i session next session_start.0 at next_at session_start.2
                  (ltb-true next.go inputs.cycles goes) has);
            }
      ]
