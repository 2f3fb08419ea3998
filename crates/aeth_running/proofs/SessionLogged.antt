-- What is logged of a session is what the log of its private server says.
use Rattle.std.proofs.Common.{◌≡◌, ◌≤◌, ◌<◌, ◌∙◌, ℕ, zero, suc, ◌+◌, Contains, List, [], ◌∷◌, Some}
use Rattle.std.proofs.Common.{drop, map, min, slice_get, take, refl, sym, ap, arith, count_by}
use Rattle.std.proofs.Common.{nat_lt}
use Rattle.std.proofs.lemmas.{List.FromFn.take-map-range_with_len, Option.same_Some}
use Rattle.std.specs.List.{range_with_len}
use Rattle.aeth_base.specs.declared.ids.Channel.{Channel}
use Rattle.aeth_server.specs.{Landing.landing_cycle, PrivateServer.PrivateServer}
use Rattle.aeth_server.specs.{PrivateServer.landed, PrivateServer.taken, Shape.HasPaths}
use Rattle.aeth_server.proofs.PrivateServerLemmas.{has-grown, in-order}
use Rattle.aeth_report.specs.Flows.{flow_of, server_of, sessions_in, values_of}
use Rattle.aeth_report.specs.RunLog.{counted_to, flow_log, landing_of}
use Rattle.aeth_report.specs.declared.{log.Landing.Landing, session.Session.Session}
use Rattle.aeth_report.specs.Sound.{IsSound}
use Rattle.aeth_report.proofs.{ClosingLemmas.lands_by_finish, OneFlit.session-paths}
use Rattle.aeth_components.specs.declared.channel_state.ChannelState.{ChannelState}
use Rattle.aeth_invariant.specs.RoutedSessions.{IsOpenSession, server_at}
use Rattle.aeth_accepted.specs.Inputs.{AreAccepted, Inputs, run_of}
use Rattle.aeth_routed_sessions.specs.RoutedSessions.{routed_sessions_of}
use Rattle.aeth_schedule.specs.declared.session_start.SessionStart.{SessionStart}
use Rattle.aeth_running.specs.{FirstLog.first_row, FirstLog.first_session, Running.IsLastOf}
use Rattle.aeth_running.specs.{Logged.landed_below, Logged.rows_logged, Logged.session_logged}
use Rattle.aeth_running.proofs.FirstRows.{count-is, first-row-is}
use Rattle.aeth_running.proofs.LandedWords.{landed-at, landed-count, slice_get-drop}
use Rattle.aeth_stimuli.specs.Sessions.{SessionStartData, as_session_start, first_of}
use Rattle.aeth_stimuli.specs.Sessions.{session_start_of}

-- Rows that are logged with a cycle each.
rows-logged-are : (end : ℕ) (landings : List ℕ) (first logged : ℕ → Landing) (at : ℕ → ℕ) (n a : ℕ)
    (cycles : List ℕ)
    → ((j : ℕ) → j < n → slice_get cycles j ≡ Some (at (a + j)))
    → ((k : ℕ) → a ≤ k → k < a + n → record (first k) { landed = at k } ≡ logged k)
    → rows_logged end landings (map first (range_with_len a n)) cycles
    ≡ map logged (range_with_len a n)
rows-logged-are end landings first logged at zero a cycles noted same = refl
rows-logged-are end landings first logged at (suc n) a [] noted same =
    let none = noted 0 (omega arith) in absurd (cc none)
rows-logged-are end landings first logged at (suc n) a (cycle ∷ cycles) noted same =
    let start : a + 0 ≡ a = omega arith in
    let here : cycle ≡ at a =
    same_Some cycle (at a) (noted 0 (omega arith) ∙ ap (λ k. Some (at k)) start) in
    let head : record (first a) { landed = cycle } ≡ logged a =
    ap (λ (c : ℕ). record (first a) { landed = c }) here ∙ same a (omega arith) (omega arith) in
    let rest = rows-logged-are end landings first logged at n (a + 1) cycles
    (λ j within.
    let next : a + suc j ≡ a + 1 + j = omega arith in
    noted (suc j) (omega arith) ∙ ap (λ k. Some (at k)) next)
    (λ k least most. same k (omega arith) (omega arith)) in
    λ q. head q ∷ rest q

module _ (inputs : Inputs) (accepted_are : AreAccepted inputs) (sound : IsSound (run_of inputs))
    (channel : Channel) (session : Session)
    (has : Contains (sessions_in (run_of inputs) channel.conn.0) session) (c : ℕ)
    (server_is : server_at (routed_sessions_of inputs) c
    ≡ server_of (run_of inputs) channel session)
    (landings : List ℕ)
    (notes : (i u : ℕ) → IsOpenSession (routed_sessions_of inputs) c u → u < inputs.cycles
    → landed (server_at (routed_sessions_of inputs) c) (u + 1) ≤ i
    → i < landed (server_at (routed_sessions_of inputs) c) (u + 2)
    → slice_get landings (first_of inputs c + i) ≡ Some (u + 1))
    (going : SessionStart) (is : as_session_start going ≡ session_start_of inputs channel session)
    (channel_state : ChannelState)
    (last : IsLastOf inputs inputs.cycles c channel_state) where
  abbrev server : PrivateServer
  server = server_of (run_of inputs) channel session

  abbrev counted : ℕ
  counted = counted_to inputs.cycles server

  abbrev latched : ℕ
  latched = landed server (min inputs.cycles server.finish + 1)

  paths : HasPaths server.shape
  paths = session-paths (run_of inputs) sound channel session has

  drained : server.stop + server.shape.path_delay ≤ server.finish
  drained = lands_by_finish (run_of inputs) sound channel session has

  noted : (i u : ℕ) → server.go ≤ u → u < server.finish → u < inputs.cycles
      → landed server (u + 1) ≤ i → i < landed server (u + 2)
      → slice_get landings (first_of inputs c + i) ≡ Some (u + 1)
  noted i u goes unfinished within after before =
      let go = ap (λ (s : PrivateServer). s.go) server_is in
      let finish = ap (λ (s : PrivateServer). s.finish) server_is in
      let one = ap (λ (s : PrivateServer). landed s (u + 1)) server_is in
      let two = ap (λ (s : PrivateServer). landed s (u + 2)) server_is in
      notes i u (record { goes = omega arith; unfinished = omega arith }) within (omega arith)
      (omega arith)

  -- So many of its words have landed below the end of the run.
  landed-is : landed_below inputs.cycles landings channel_state ≡ landed server counted
  landed-is =
      let many : channel_state.landed ≡ latched = last.landed_is
      ∙ ap (λ (s : PrivateServer). landed s (min inputs.cycles s.finish + 1)) server_is in
      (λ q. count_by (λ at. nat_lt at inputs.cycles) (take (many q) (drop (last.first_is q) landings)))
      ∙ landed-count server paths drained inputs.cycles (first_of inputs c) landings noted

  -- No more than are offered within the run.
  few : landed server counted ≤ going.count
  few =
      let order = in-order server paths counted in
      let lands = order.lands in
      let sends = order.sends in
      let grown = (has-grown server paths counted inputs.cycles (omega arith)).arrived in
      let count = count-is inputs accepted_are channel session going is in
      omega arith

  rows-are : rows_logged inputs.cycles landings
      (take (landed server counted) (first_session inputs.words inputs.cycles going).rows)
      (drop (first_of inputs c) landings)
      ≡ map (landing_of inputs.cycles server (values_of (run_of inputs) channel session))
      (range_with_len 0 (landed server counted))
  rows-are =
      let first = first_row inputs.words going in
      let n = landed server counted in
      let values = values_of (run_of inputs) channel session in
      ap (λ (rows : List Landing). rows_logged inputs.cycles landings rows
      (drop (first_of inputs c) landings))
      (take-map-range_with_len first 0 going.count n few)
      ∙ rows-logged-are inputs.cycles landings first (landing_of inputs.cycles server values)
      (λ k. landing_cycle server counted (k + 1)) n 0 (drop (first_of inputs c) landings)
      (λ j within.
      let start : 0 + j ≡ j = omega arith in
      slice_get-drop (first_of inputs c) landings j
      ∙ landed-at server paths drained inputs.cycles (first_of inputs c) landings noted j within
      ∙ ap (λ k. Some (landing_cycle server counted (k + 1))) (sym start))
      (λ k least most.
      let below = few in
      let row = first-row-is inputs accepted_are channel session going is k (omega arith) in
      ap (λ (r : Landing). record r { landed = landing_cycle server counted (k + 1) }) row)

  -- So the session is logged as its private server has it.
  pub session-is : session_logged inputs.cycles landings
      (first_session inputs.words inputs.cycles going) channel_state
      ≡ flow_log inputs.cycles (flow_of (run_of inputs) channel session)
  session-is =
      let go : going.channel_state.go ≡ session.go =
      ap (λ (g : SessionStartData). g.channel_state.go) is in
      let fin : going.channel_state.fin ≡ server.finish =
      ap (λ (g : SessionStartData). g.channel_state.fin) is in
      let offered = count-is inputs accepted_are channel session going is in
      let takes : channel_state.taken ≡ taken server counted =
      last.taken_is
      ∙ ap (λ (s : PrivateServer). taken s (min inputs.cycles s.finish)) server_is
      ∙ ap (taken server) (omega arith) in
      let first = first_session inputs.words inputs.cycles going in
      let rows : rows_logged inputs.cycles landings
      (take (landed_below inputs.cycles landings channel_state) first.rows)
      (drop channel_state.first landings)
      ≡ map (landing_of inputs.cycles server (values_of (run_of inputs) channel session))
      (range_with_len 0 (landed server counted)) =
      (λ q. rows_logged inputs.cycles landings (take (landed-is q) first.rows)
      (drop (last.first_is q) landings)) ∙ rows-are in
      λ q. record {
        go = go q;
        ended = nat_lt (fin q) inputs.cycles;
        offered = offered q;
        landed = landed-is q;
        taken = takes q;
        rows = rows q;
      }
