-- The rows of a session's log before anything has landed: those of the words that it accepts within
-- the run.
use Rattle.std.proofs.Common.{◌≡◌, ◌≤◌, ◌<◌, ◌∙◌, ℕ, zero, suc, ◌+◌, ◌*◌, ◌-◌, ◌&&◌, List, drop}
use Rattle.std.proofs.Common.{filter, length, map, max, min, take, refl, sym, ap, inl, inr, arith}
use Rattle.std.proofs.Common.{nat_le, nat_lt, slice_index, le-leb, le-ltb, lt-ltb, get_or-take}
use Rattle.std.proofs.lemmas.Bool.{cases_lt, lt-leb}
use Rattle.std.proofs.lemmas.List.{length-map, take-map, Kept.IsNonDecreasingBy-filter}
use Rattle.std.specs.List.Sorted.{IsNonDecreasingBy}
use Rattle.aeth_base.{specs.declared.ids.Channel.Channel, proofs.Filters.filter-map}
use Rattle.aeth_server.specs.{ChannelShape.shape_of, FinishTimes.due_cycle, FinishTimes.finish_time}
use Rattle.aeth_server.specs.{PrivateServer.accepted, PrivateServer.arrived, Shape.Shape}
use Rattle.aeth_server.specs.{Shape.channel_latency}
use Rattle.aeth_trace.specs.{Channels.is_channel, Words.words_on, declared.words.WordRow.WordRow}
use Rattle.aeth_report.specs.Flows.{close_at, server_of, values_of, words_in}
use Rattle.aeth_report.specs.RunLog.{due_of}
use Rattle.aeth_report.specs.declared.{log.Landing.Landing, session.Session.Session}
use Rattle.aeth_report.proofs.ListOrder.{early-first}
use Rattle.aeth_accepted.specs.Inputs.{AreAccepted, Inputs, run_of}
use Rattle.aeth_schedule.specs.{Values.before_of, declared.session_start.SessionStart.SessionStart}
use Rattle.aeth_running.specs.FirstLog.{first_row, rows_of}
use Rattle.aeth_running.proofs.InOrder.{below, below-both, between-are, between-count}
use Rattle.aeth_stimuli.specs.Sessions.{SessionStartData, as_session_start, session_start_of}
use Rattle.aeth_stimuli.proofs.WordWindows.{below-none}

-- The first i words are done as they are by themselves.
finish-first : (size rate latency n : ℕ) (arrivals : List ℕ) (i : ℕ) → i ≤ n
    → finish_time size rate latency (take n arrivals) i ≡ finish_time size rate latency arrivals i
finish-first size rate latency n arrivals zero few = refl
finish-first size rate latency n arrivals (suc i) few =
    let rest = finish-first size rate latency n arrivals i (omega arith) in
    let here = get_or-take n arrivals i 0 (omega arith) in
    λ q. max (rate * (here q + latency)) (rest q) + size

module _ (words : List WordRow) (channel : Channel) where
  abbrev cycle_of : WordRow → ℕ
  cycle_of row = row.cycle

  abbrev own : List WordRow
  own = words_on words channel

  -- A cycle is no later than another where it comes before the next.
  at-most : (c t : ℕ) → nat_le c t ≡ nat_lt c (suc t)
  at-most c t = elim (cases_lt t c) [
    | inl more ↦ lt-leb c t more ∙ sym (le-ltb c (suc t) (omega arith))
    | inr few ↦ le-leb c t few ∙ sym (lt-ltb c (suc t) (omega arith))
  ]

  -- So many of a channel's words are offered before a cycle.
  pub before-is : (t : ℕ) → before_of words channel t
      ≡ length (filter (below cycle_of t) (words_on words channel))
  before-is zero = sym (ap length (below-none cycle_of 0 own (λ k d within. omega arith)))
  before-is (suc t) = λ q. length (filter (λ (row : WordRow). at-most row.cycle t q) own)

module _ (inputs : Inputs) (accepted_are : AreAccepted inputs) (channel : Channel)
    (session : Session) where
  abbrev until : ℕ
  until = (close_at inputs.cycles session).until

  abbrev cycle : WordRow → ℕ
  cycle row = row.cycle

  abbrev rows : List WordRow
  rows = words_in (run_of inputs) channel session

  ordered : IsNonDecreasingBy cycle (words_on inputs.words channel)
  ordered = IsNonDecreasingBy-filter cycle (λ (row : WordRow). is_channel channel row.channel)
      inputs.words accepted_are.words.order

  rows-ordered : IsNonDecreasingBy cycle rows
  rows-ordered = IsNonDecreasingBy-filter cycle
      (λ (row : WordRow). nat_le session.go row.cycle && nat_lt row.cycle until)
      (words_on inputs.words channel) ordered

  -- The words that the session accepts within the run.
  abbrev within : List WordRow
  within = filter (below cycle inputs.cycles) rows

  abbrev counted : ℕ
  counted = before_of inputs.words channel (min until inputs.cycles)
      - before_of inputs.words channel session.go

  between : filter (below cycle (min until inputs.cycles))
      (filter (λ (row : WordRow). nat_le session.go row.cycle) (words_on inputs.words channel))
      ≡ within
  between = below-both cycle session.go until inputs.cycles (words_on inputs.words channel)

  counted-is : counted ≡ length within
  counted-is =
      (λ q. before-is inputs.words channel (min until inputs.cycles) q
      - before-is inputs.words channel session.go q)
      ∙ sym (between-count cycle session.go (min until inputs.cycles) (words_on inputs.words channel))
      ∙ ap length between

  -- They stand side by side among the channel's words, and first among those of the session.
  taken-are : take counted (drop (before_of inputs.words channel session.go)
      (words_on inputs.words channel)) ≡ take counted rows
  taken-are =
      let all = words_on inputs.words channel in
      (λ q. take (before-is inputs.words channel (min until inputs.cycles) q
      - before-is inputs.words channel session.go q)
      (drop (before-is inputs.words channel session.go q) all))
      ∙ between-are cycle session.go (min until inputs.cycles) all ordered
      ∙ between
      ∙ early-first cycle inputs.cycles rows rows-ordered
      ∙ ap (λ n. take n rows) (sym counted-is)

  -- The cycles of the session's words are those that its server accepts.
  accepted-are : accepted (server_of (run_of inputs) channel session) ≡ map cycle rows
  accepted-are = filter-map (λ a. nat_le session.go a && nat_lt a until) cycle
      (words_on inputs.words channel)

  counted-arrived : counted ≡ arrived (server_of (run_of inputs) channel session) inputs.cycles
  counted-arrived =
      counted-is
      ∙ sym (length-map within cycle)
      ∙ ap length (sym (filter-map (λ a. nat_lt a inputs.cycles) cycle rows))
      ∙ (λ q. length (filter (λ a. nat_lt a inputs.cycles) (sym accepted-are q)))

  module _ (session_start : SessionStart)
      (is : as_session_start session_start ≡ session_start_of inputs channel session) where
    -- So many words are offered to the session within the run.
    pub count-is : session_start.count
        ≡ arrived (server_of (run_of inputs) channel session) inputs.cycles
    count-is = ap (λ (g : SessionStartData). g.count) is ∙ counted-arrived

    -- They are the first of all that it accepts.
    pub rows-are : rows_of inputs.words session_start
        ≡ take session_start.count (words_in (run_of inputs) channel session)
    rows-are =
        let count : session_start.count ≡ counted = ap (λ (g : SessionStartData). g.count) is in
        let before : session_start.before ≡ before_of inputs.words channel session.go =
        ap (λ (g : SessionStartData). g.before) is in
        let same : session_start.channel ≡ channel = ap (λ (g : SessionStartData). g.channel) is in
        (λ q. take (count q) (drop (before q) (words_on inputs.words (same q))))
        ∙ taken-are ∙ ap (λ n. take n rows) (sym count)

    -- What a log says of the word behind the first k, as of which nothing has landed.
    abbrev pub logged_row : ℕ → Landing
    logged_row k =
        let server = server_of (run_of inputs) channel session in
        record {
          offered = slice_index (accepted server) k;
          landed = 0;
          due = due_of server (k + 1);
          value = slice_index (values_of (run_of inputs) channel session) k;
        }

    pub first-row-is : (k : ℕ) → k < session_start.count
        → first_row inputs.words session_start k ≡ logged_row k
    first-row-is k inside =
        let server = server_of (run_of inputs) channel session in
        let value = λ (row : WordRow). row.value in
        let shape : shape_of session_start.shape ≡ server.shape =
        ap (λ (g : SessionStartData). g.shape) is in
        let cycles : map cycle (rows_of inputs.words session_start)
        ≡ take session_start.count (accepted server) =
        ap (λ (list : List WordRow). map cycle list) rows-are
        ∙ sym (take-map cycle session_start.count rows)
        ∙ ap (λ (list : List ℕ). take session_start.count list) (sym accepted-are) in
        let values : map value (rows_of inputs.words session_start)
        ≡ take session_start.count (map value rows) =
        ap (λ (list : List WordRow). map value list) rows-are
        ∙ sym (take-map value session_start.count rows) in
        let offered : slice_index (map cycle (rows_of inputs.words session_start)) k
        ≡ slice_index (accepted server) k =
        ap (λ (list : List ℕ). slice_index list k) cycles
        ∙ get_or-take session_start.count (accepted server) k 0 inside in
        let valued : slice_index (map value (rows_of inputs.words session_start)) k
        ≡ slice_index (map value rows) k =
        ap (λ (list : List ℕ). slice_index list k) values
        ∙ get_or-take session_start.count (map value rows) k 0 inside in
        let finish = λ (s : Shape) (list : List ℕ). due_cycle s.rate
        (finish_time s.size s.rate (channel_latency s) list (k + 1)) in
        let due : finish (shape_of session_start.shape)
        (map cycle (rows_of inputs.words session_start))
        ≡ finish server.shape (accepted server) =
        (λ q. finish (shape q) (cycles q))
        ∙ ap (due_cycle server.shape.rate) (finish-first server.shape.size server.shape.rate
        (channel_latency server.shape) session_start.count (accepted server) (k + 1) (omega arith))
        in
        λ q. record { offered = offered q; landed = 0; due = due q; value = valued q }
