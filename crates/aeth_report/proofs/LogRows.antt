-- The rows of a session's log: its landings, by their due cycles.
use Rattle.std.proofs.Common.{◌≡◌, ◌≤◌, ◌<◌, ◌∙◌, ℕ, ◌+◌, ◌-◌, ◌*◌, List, Some, slice_get, refl}
use Rattle.std.proofs.Common.{sym, ap, subst, inl, inr, arith, option_map, slice_index}
use Rattle.std.proofs.lemmas.Bool.{cases_lt}
use Rattle.std.proofs.lemmas.Option.{slice_get-map, slice_get_within, slice_get-get_or}
use Rattle.std.proofs.lemmas.List.FromFn.{length-range_with_len, get_or-range_with_len}
use Rattle.std.specs.List.{range_with_len, Sorted.IsNonDecreasing}
use Rattle.aeth_server.specs.Landing.{IsDue, LandsAt, LandsBy, WaitsAlone, due_time}
use Rattle.aeth_server.specs.PrivateServer.{PrivateServer, accepted, landed}
use Rattle.aeth_server.specs.Shape.{HasPaths, IsGranted, buffer_of}
use Rattle.aeth_server.proofs.{CreditLoop.landed-due, CreditLoop.lands-by}
use Rattle.aeth_server.proofs.{LandingLemmas.due-in-time, LandingLemmas.landing_cycle-lands}
use Rattle.aeth_server.proofs.{SingleWord.lands-alone, PrivateServerLemmas.has-grown}
use Rattle.aeth_slots.specs.SlotSet.{Ascends}
use Rattle.aeth_report.specs.declared.log.Landing.{Landing}
use Rattle.aeth_report.specs.Bounds.{IsLoggedBy, IsLoggedInTime}
use Rattle.aeth_report.specs.RunLog.{counted_to, due_of, landing_of, session_log}
use Rattle.aeth_report.proofs.{Places.range-place, SessionMeetings.mapped_at}

module _ (server : PrivateServer) (paths : HasPaths server.shape) (cycles : ℕ) (values : List ℕ) where
  abbrev counted : ℕ
  counted = counted_to cycles server

  -- A word lands before each cycle by which it has landed.
  pub lands-before : (i p t : ℕ) → LandsAt server i p → i ≤ landed server t → p < t
  lands-before i p t lands there = elim (cases_lt p t) [
    | inl below ↦ below
    | inr above ↦
        let grown = (has-grown server paths t p above).landed in
        let before = lands.before in
        absurd (omega arith)
  ]

  -- It lands once.
  pub lands-once : (i p q : ℕ) → LandsAt server i p → LandsAt server i q → p ≡ q
  lands-once i p q lands again =
      let one = lands-before i p (q + 1) lands again.after in
      let other = lands-before i q (p + 1) again lands.after in
      omega arith

  -- What a row at a place tells.
  pub record IsRowAt (k : ℕ) (row : Landing) : Type 0 where
    pub offered : row.offered ≡ slice_index (accepted server) k
    pub value : row.value ≡ slice_index values k
    pub there : k < landed server counted
    pub lands : LandsAt server (k + 1) row.landed
    pub early : row.landed < counted
    pub due : row.due ≡ due_of server (k + 1)

  -- So each row tells it.
  pub row-is : (k : ℕ) (row : Landing)
      → slice_get (session_log cycles server values).rows k ≡ Some row → IsRowAt k row
  row-is k row at =
      let count = landed server counted in
      let found = mapped_at (landing_of cycles server values) (range_with_len 0 count) k row at in
      let number = range-place 0 count k found.0 found.1 in
      let within = slice_get_within (range_with_len 0 count) k found.0 found.1 in
      let size = length-range_with_len 0 count in
      let here : found.0 ≡ k = omega arith in
      let lands = landing_cycle-lands server counted (k + 1) (omega arith) (omega arith) in
      let own : IsRowAt k (landing_of cycles server values k) = record {
        offered = refl;
        value = refl;
        there = omega arith;
        lands = lands;
        early = lands-before (k + 1) _ counted lands (omega arith);
        due = refl;
      } in
      subst (λ (r : Landing). IsRowAt k r)
      (ap (landing_of cycles server values) (sym here) ∙ found.2) own

  -- A word that has landed in the run has a row.
  row-of : (i : ℕ) → 1 ≤ i → i ≤ landed server counted
      → slice_get (session_log cycles server values).rows (i - 1)
      ≡ Some (landing_of cycles server values (i - 1))
  row-of i some there =
      let count = landed server counted in
      let numbers = range_with_len 0 count in
      let size = length-range_with_len 0 count in
      let within : i - 1 < count = omega arith in
      slice_get-map (landing_of cycles server values) numbers (i - 1)
      ∙ ap (λ o. option_map (landing_of cycles server values) o)
      (slice_get-get_or numbers (i - 1) 0 (omega arith)
      ∙ ap Some (get_or-range_with_len 0 count (i - 1) 0 within ∙ omega arith))

  -- So one that has landed by a cycle has a row that says so.
  pub logged_by : (i t : ℕ) → 1 ≤ i → i ≤ landed server (t + 1) → t + 1 ≤ counted
      → IsLoggedBy (session_log cycles server values) i t
  logged_by i t some there early =
      let grown = (has-grown server paths (t + 1) counted early).landed in
      let at = row-of i some (omega arith) in
      let next : i - 1 + 1 ≡ i = omega arith in
      let lands : LandsAt server i (landing_of cycles server values (i - 1)).landed =
      rw next (landing_cycle-lands server counted i some (omega arith)) in
      let below = lands-before i _ (t + 1) lands there in
      record { row = landing_of cycles server values (i - 1); at = at; lands = omega arith }

  -- A word that lands by its due time has a row that says so.
  pub logged_in_time : (i t : ℕ) → 1 ≤ i → 1 ≤ server.shape.rate
      → LandsBy server i (due_time server i)
      → IsLoggedBy (session_log cycles server values) i t
      → IsLoggedInTime server (session_log cycles server values) i
  logged_in_time i t least some by logged =
      let next : i - 1 + 1 ≡ i = omega arith in
      let is = row-is (i - 1) logged.row logged.at in
      let lands : LandsAt server i logged.row.landed = rw next at is.lands in
      let same = lands-once i logged.row.landed by.cycle lands by.lands in
      let early : server.shape.rate * logged.row.landed ≤ due_time server i = rw same by.early in
      record {
        row = logged.row;
        at = logged.at;
        early = early;
        lands = due-in-time server.shape.rate (due_time server i) logged.row.landed some early;
      }

  -- A word that is due by a cycle of the run has a row by then, and in time, while the receiver keeps
  -- its delay.
  pub due_logged : (i t : ℕ) → IsGranted server.shape → IsNonDecreasing server.offers
      → buffer_of server.shape ≤ server.buffer → IsDue server i t → t + 1 ≤ counted
      → IsLoggedBy (session_log cycles server values) i t
      × IsLoggedInTime server (session_log cycles server values) i
  due_logged i t granted order enough due early =
      let there = landed-due server granted order enough i t due in
      let logged = logged_by i t due.least there early in
      let by = lands-by server granted order enough i t due in
      (logged, logged_in_time i t due.least granted.least_rate by logged)

  -- A word that waits alone has a row within its latency.
  pub alone_logged : (need i a latency : ℕ) → Ascends 0 server.shape.size server.shape.slots
      → IsNonDecreasing server.offers → WaitsAlone server need i a latency
      → a + latency + 1 ≤ counted
      → IsLoggedBy (session_log cycles server values) i (a + latency)
  alone_logged need i a latency ascends order waits early =
      let there = lands-alone server paths ascends order need i a latency waits in
      logged_by i (a + latency) waits.least there early
