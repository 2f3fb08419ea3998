-- The rows of the log of a run's session: of a channel's words that are in order, and within the
-- session's cycles.
use Rattle.std.proofs.Common.{◌≡◌, ◌≤◌, ◌<◌, ◌∙◌, ◌&&◌, ℕ, ◌+◌, ◌-◌, List, Contains, Some, length}
use Rattle.std.proofs.Common.{map, slice_get, ap, arith, nat_le, nat_lt, slice_index}
use Rattle.std.proofs.Common.{slice_index_or}
use Rattle.std.proofs.lemmas.List.{get_or-map, length-map, Kept.IsNonDecreasingBy-filter}
use Rattle.std.proofs.lemmas.List.{Sums.count_by-le-length, Sums.length-filter}
use Rattle.std.proofs.lemmas.Option.{slice_get-get_or}
use Rattle.std.specs.List.Sorted.{IsNonDecreasing, IsNonDecreasingBy}
use Rattle.aeth_base.{specs.declared.ids.Channel.Channel, proofs.Filters.filter-map}
use Rattle.aeth_server.{specs.Landing.IsDue, specs.Landing.WaitsAlone, specs.PrivateServer.accepted}
use Rattle.aeth_server.{proofs.PrivateServerLemmas.in-order, specs.Shape.IsGranted}
use Rattle.aeth_trace.specs.{Channels.is_channel, Words.words_on, declared.words.WordRow.WordRow}
use Rattle.aeth_report.specs.{declared.session.Session.Session, Bounds.IsLandingOf}
use Rattle.aeth_report.specs.{Bounds.IsLoggedBy, Bounds.IsLoggedInTime}
use Rattle.aeth_report.specs.{declared.log.Landing.Landing, Flows.Run, Flows.close_at}
use Rattle.aeth_report.specs.{Flows.flow_of, Flows.server_of, Flows.sessions_in, Flows.values_of}
use Rattle.aeth_report.specs.{Flows.words_in, RunLog.counted_to, RunLog.flow_log, Sound.IsSound}
use Rattle.aeth_report.proofs.{ClosingLemmas.lands_by_finish, LogRows.alone_logged}
use Rattle.aeth_report.proofs.{LogRows.due_logged, LogRows.row-is, OneFlit.session-paths}

-- The words of a channel come in the order of their cycles.
offers-order : (words : List WordRow) (channel : Channel) → IsNonDecreasingBy (λ row. row.cycle) words
    → IsNonDecreasing (map (λ row. row.cycle) (words_on words channel))
offers-order words channel order i j default up within =
    let cycle = λ (row : WordRow). row.cycle in
    let rows = words_on words channel in
    let filler : WordRow = record { channel = channel; cycle = 0; value = 0 } in
    let sorted = IsNonDecreasingBy-filter cycle
    (λ (row : WordRow). is_channel channel row.channel) words order in
    let size = length-map rows cycle in
    let one = get_or-map cycle rows i filler default (omega arith) in
    let two = get_or-map cycle rows j filler default (omega arith) in
    let rises = sorted i j filler up (omega arith) in
    omega arith

-- The cycles of the words that a session accepts are those that its private server accepts.
accepted-words : (run : Run) (channel : Channel) (session : Session)
    → accepted (server_of run channel session)
    ≡ map (λ row. row.cycle) (words_in run channel session)
accepted-words run channel session =
    let until = (close_at run.cycles session).until in
    filter-map (λ a. nat_le session.go a && nat_lt a until) (λ (row : WordRow). row.cycle)
    (words_on run.words channel)

-- Each row of a session's log is the landing of its word.
pub landing_row : (run : Run) → IsSound run → (channel : Channel) (session : Session)
    → Contains (sessions_in run channel.conn.0) session → (k : ℕ) (row : Landing)
    → slice_get (flow_log run.cycles (flow_of run channel session)).rows k ≡ Some row
    → IsLandingOf run channel session (k + 1) row
landing_row run sound channel session has k row at =
    let server = server_of run channel session in
    let paths = session-paths run sound channel session has in
    let words = words_in run channel session in
    let cycle = λ (word : WordRow). word.cycle in
    let value = λ (word : WordRow). word.value in
    let filler : WordRow = record { channel = channel; cycle = 0; value = 0 } in
    let is = row-is server paths run.cycles (values_of run channel session) k row at in
    let counted = counted_to run.cycles server in
    let order = in-order server paths counted in
    let there = is.there in
    let lands = order.lands in
    let sends = order.sends in
    let early_one = λ (a : ℕ). nat_lt a counted in
    let arrives = length-filter early_one (accepted server) in
    let few = count_by-le-length early_one (accepted server) in
    let same = ap length (accepted-words run channel session) in
    let size = length-map words cycle in
    let inside : k < length words = omega arith in
    let back : k + 1 - 1 ≡ k = omega arith in
    let early = is.early in
    record {
      word = slice_index_or words k filler;
      is = rw back (slice_get-get_or words k filler inside);
      offered = is.offered
          ∙ ap (λ (cycles : List ℕ). slice_index cycles k) (accepted-words run channel session)
          ∙ get_or-map cycle words k filler 0 inside;
      value = is.value ∙ get_or-map value words k filler 0 inside;
      lands = is.lands;
      within = omega arith;
      unfinished = omega arith;
      due = is.due;
    }

module _ (run : Run) (sound : IsSound run) (order : IsNonDecreasingBy (λ row. row.cycle) run.words)
    (channel : Channel) (session : Session)
    (has : Contains (sessions_in run channel.conn.0) session) where
  -- What is sent by a cycle before the stop and a path delay lands within the session.
  within : (t : ℕ) → let server = server_of run channel session in
      t < server.stop + server.shape.path_delay → t < run.cycles
      → t + 1 ≤ counted_to run.cycles server
  within t early inside =
      let lands = lands_by_finish run sound channel session has in omega arith

  -- A word that is due by a cycle of the run has a row by then, and in time.
  pub due_words : IsGranted (server_of run channel session).shape → (i t : ℕ)
      → IsDue (server_of run channel session) i t → t < run.cycles
      → IsLoggedBy (flow_log run.cycles (flow_of run channel session)) i t
      × IsLoggedInTime (server_of run channel session)
      (flow_log run.cycles (flow_of run channel session)) i
  due_words granted i t due inside =
      let server = server_of run channel session in
      due_logged server (session-paths run sound channel session has) run.cycles
      (values_of run channel session) i t granted (offers-order run.words channel order)
      (omega arith) due (within t due.in_time inside)

  -- A word that waits alone has a row within its latency.
  pub alone_words : IsGranted (server_of run channel session).shape → (need i a latency : ℕ)
      → WaitsAlone (server_of run channel session) need i a latency → a + latency < run.cycles
      → IsLoggedBy (flow_log run.cycles (flow_of run channel session)) i (a + latency)
  alone_words granted need i a latency waits inside =
      let server = server_of run channel session in
      alone_logged server (session-paths run sound channel session has) run.cycles
      (values_of run channel session) need i a latency granted.ascends
      (offers-order run.words channel order) waits (within (a + latency) waits.in_time inside)
