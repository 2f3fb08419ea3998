-- The sessions of a run as the schedule has them are those of the list, one by one.
use Rattle.std.proofs.Common.{◌≡◌, ◌≤◌, ◌<◌, ◌++◌, ◌∙◌, ℕ, All, Bool, List, [], ◌∷◌, Option, Some}
use Rattle.std.proofs.Common.{None, ap, arith, filter, inl, inr, length, map, refl, subst, sym}
use Rattle.std.proofs.Common.{take, ◌==◌, flat_map, nat_lt, ◌-◌, ◌+◌, min, eq-eqb, ne_eqb}
use Rattle.std.proofs.lemmas.{Bool.cases_eq, Grind.flat_map-append, List.length-map}
use Rattle.std.proofs.lemmas.{List.map-append, List.Elements.All-head, List.Elements.All-tail}
use Rattle.std.proofs.lemmas.{Simd.map-map, Option.slice_get-get_or}
use Rattle.std.specs.List.{range_with_len, Sorted.IsNonDecreasingBy}
use Rattle.aeth_trace.proofs.OrderLemmas.{first_least, later_rise, rise-cons, rise-filter}
use Rattle.aeth_trace.specs.{Channels.channel_number, Spans.SpanData}
use Rattle.aeth_trace.specs.{declared.switches.SwitchRow.SwitchRow}
use Rattle.aeth_base.specs.declared.ids.Channel.{Channel}
use Rattle.aeth_base.proofs.{Filters.filter-map, Filters.filter-swap, Members.All-from_map}
use Rattle.aeth_group.specs.Members.{GroupsData, group_at, groups_of, has_at}
use Rattle.aeth_group.proofs.MemberLemmas.{connections-groups_of}
use Rattle.aeth_report.specs.Channels.{channels_with}
use Rattle.aeth_report.specs.declared.session.Session.{Session}
use Rattle.aeth_report.specs.Flows.{close_at, sessions_in}
use Rattle.aeth_report.specs.Sessions.{Stay, Switch, go_of, opens, session_of, stays_of}
use Rattle.aeth_report.specs.SessionList.{ChannelSession, ConnectionStay, both_of, entered_behind}
use Rattle.aeth_report.specs.SessionList.{entered_with, entered_from, is_on, listed_at, no_session}
use Rattle.aeth_report.specs.SessionList.{session_list, stay_by}
use Rattle.aeth_report.proofs.Stays.{opened, switch_of}
use Rattle.aeth_report.proofs.ChannelSessions.{sessions-on}
use Rattle.aeth_report.proofs.ListOrder.{early-first, early-within, sessions-rise}
use Rattle.aeth_reconf.specs.Rows.{channels_that}
use Rattle.aeth_accepted.specs.Inputs.{AreAccepted, Inputs, run_of}
use Rattle.aeth_schedule.specs.SessionStarts.{session_start_by, session_starts_behind}
use Rattle.aeth_schedule.specs.SessionStarts.{session_starts_from, session_starts_of, session_by}
use Rattle.aeth_schedule.specs.Lines.{all_lines, changed_lines, end_of, lines_at}
use Rattle.aeth_schedule.specs.Values.{before_of, start_of}
use Rattle.aeth_schedule.specs.declared.{session_start.SessionStart.SessionStart, lines.Line.Line}
use Rattle.aeth_stimuli.specs.Sessions.{SessionStartData, as_session_start, session_start_of}
use Rattle.aeth_stimuli.specs.Sessions.{listed_session_start}
use Rattle.aeth_stimuli.specs.Stimuli.{session_starts_over}
use Rattle.aeth_stimuli.proofs.ChannelLists.{same_numbers}
use Rattle.aeth_stimuli.proofs.OfferedWords.{rise-map}
use Rattle.aeth_stimuli.proofs.UseLines.{ShapedLine, changed-shaped, line_of, lines-shaped, shaped}

-- The sessions that come with a use case are those of the channels of their connections, in channel
-- order.
pub entered-channels : (groups : GroupsData) (opening : Option Switch) (u : ℕ)
    (rows : List SwitchRow) (cs : List ℕ)
    → flat_map both_of (map (stay_by groups opening u rows) cs)
    ≡ map (λ (channel : Channel). record {
      channel = channel;
      stay = opened groups channel.conn.0 opening u rows;
    }) (flat_map channels_with cs)
entered-channels groups opening u rows [] = refl
entered-channels groups opening u rows (c ∷ cs) =
    let rest = entered-channels groups opening u rows cs in
    ap (λ (later : List ChannelSession). both_of (stay_by groups opening u rows c) ++ later) rest

-- Items are in order where their images are.
rise-from : {X Y : Type 0} (f : X → Y) (n : Y → ℕ) (xs : List X)
    → IsNonDecreasingBy n (map f xs) → IsNonDecreasingBy (λ x. n (f x)) xs
rise-from f n [] rises = λ i j d le within. absurd (omega (arith, within))
rise-from f n (x ∷ xs) rises =
    rise-cons (λ z. n (f z)) x xs
    (All-from_map f (λ y. n (f x) ≤ n y) xs (first_least n (f x) (map f xs) rises))
    (rise-from f n xs (later_rise n (f x) (map f xs) rises))

module _ (inputs : Inputs) where
  abbrev groups : GroupsData
  groups = groups_of inputs.app

  abbrev spans : SpanData
  spans = (run_of inputs).spans

  abbrev shown : List ConnectionStay → List SessionStartData
  shown list = map (listed_session_start inputs) (flat_map both_of list)

  -- When one goes, and those that go within the run.
  abbrev gone : ChannelSession → ℕ
  gone session = go_of (run_of inputs).spans session.stay.opening

  abbrev kept : List ChannelSession
  kept = filter (λ session. nat_lt (gone session) inputs.cycles) (session_list (run_of inputs))

  abbrev by : Option Switch → ℕ → List SwitchRow → Line → SessionStart
  by = session_start_by groups spans (all_lines inputs) inputs.words inputs.cycles

  abbrev behind : ℕ → List SwitchRow → List SessionStart
  behind = session_starts_behind groups spans (all_lines inputs) inputs.words inputs.cycles

  -- The session of a line with its shape in numbers.
  abbrev of_line : Option Switch → ℕ → List SwitchRow → ShapedLine → SessionStartData
  of_line opening u rows line =
      let channel = line.row.channel in
      let go = go_of spans opening in
      let close =
      close_at inputs.cycles (session_by groups spans None u rows channel.conn.0) in
      let before = before_of inputs.words channel go in
      record {
        channel = channel;
        shape = line.shape;
        until = close.until;
        before = before;
        count = before_of inputs.words channel (min close.until inputs.cycles) - before;
        channel_state = record {
          sender = end_of line.row;
          receiver = line.receiver;
          go = go;
          fin = close.fin;
          first = start_of inputs.words channel + before;
          accepted = 0;
          pull = 0;
          enqueued = 0;
          landed = 0;
          taken = 0;
        };
      }

  -- The sessions of lines, before others.
  joined : (test : ℕ → Bool) (opening : Option Switch) (u : ℕ) (rows : List SwitchRow)
      (lines : List Line) (session_starts : List SessionStart) (later : List ConnectionStay)
      → map shaped lines ≡ map (line_of inputs (group_at groups u)) (channels_that groups test)
      → map as_session_start session_starts ≡ shown later
      → map as_session_start (map (by opening u rows) lines ++ session_starts)
      ≡ shown (entered_with groups test opening u rows ++ later)
  joined test opening u rows lines session_starts later same rest =
      let show = of_line opening u rows in
      let line = line_of inputs (group_at groups u) in
      let cs = filter test (range_with_len 0 groups.connections) in
      let channels = flat_map channels_with cs in
      let now = entered_with groups test opening u rows in
      let session : Channel → ChannelSession = λ channel. record {
        channel = channel;
        stay = opened groups channel.conn.0 opening u rows;
      } in
      let first : map as_session_start (map (by opening u rows) lines) ≡ shown now =
      map-map as_session_start (by opening u rows) lines
      ∙ sym (map-map show shaped lines)
      ∙ ap (map show) same
      ∙ map-map show line channels
      ∙ sym (map-map (listed_session_start inputs) session channels)
      ∙ ap (map (listed_session_start inputs)) (sym (entered-channels groups opening u rows cs)) in
      map-append as_session_start (map (by opening u rows) lines) session_starts
      ∙ (λ k. first k ++ rest k)
      ∙ sym (map-append (listed_session_start inputs) (flat_map both_of now)
      (flat_map both_of later))
      ∙ ap (map (listed_session_start inputs)) (sym (flat_map-append both_of now later))

  module _ (accepted : AreAccepted inputs) where
    abbrev AreRows : List SwitchRow → Type 0
    AreRows rows = All (λ row. row.to.0 < length inputs.app.uses) rows

    behind-are : (u : ℕ) (rows : List SwitchRow) → AreRows rows
        → map as_session_start (behind u rows) ≡ shown (entered_behind groups u rows)
    behind-are u [] fit = refl
    behind-are u (row ∷ rows) fit =
        let v = row.to.0 in
        let fits = λ (one : SwitchRow). one.to.0 < length inputs.app.uses in
        joined (opens groups u v) (Some (switch_of u row)) v rows
        (changed_lines groups u v (lines_at (all_lines inputs) v)) (behind v rows)
        (entered_behind groups v rows)
        (changed-shaped inputs accepted v (All-head fits row rows fit) u)
        (behind-are v rows (All-tail fits row rows fit))

    from-are : (rows : List SwitchRow) → AreRows rows
        → map as_session_start
        (session_starts_from groups spans (all_lines inputs) inputs.words inputs.cycles rows)
        ≡ shown (entered_from groups rows)
    from-are [] fit = refl
    from-are (row ∷ rows) fit =
        let u = row.to.0 in
        let fits = λ (one : SwitchRow). one.to.0 < length inputs.app.uses in
        joined (has_at groups u) None u rows (lines_at (all_lines inputs) u) (behind u rows)
        (entered_behind groups u rows)
        (lines-shaped inputs accepted u (All-head fits row rows fit))
        (behind-are u rows (All-tail fits row rows fit))

    -- The sessions that go within a run are those of the list that do, in its order.
    pub session_starts-sessions : map as_session_start (session_starts_of inputs)
        ≡ map (listed_session_start inputs) kept
    unfolding session_starts_of
    session_starts-sessions =
        let early = λ (session_start : SessionStartData). nat_lt session_start.channel_state.go
        inputs.cycles in
        sym (filter-map early as_session_start
        (session_starts_from groups spans (all_lines inputs) inputs.words inputs.cycles
        inputs.switches))
        ∙ ap (filter early) (from-are inputs.switches accepted.switches.known)
        ∙ filter-map early (listed_session_start inputs) (session_list (run_of inputs))

    kept-count : length kept ≡ length (session_starts_of inputs)
    kept-count = sym (length-map kept (listed_session_start inputs))
        ∙ ap length (sym session_starts-sessions)
        ∙ length-map (session_starts_of inputs) as_session_start

    -- They are its first ones: a session that goes has one number in both.
    pub session_starts-first : map as_session_start (session_starts_of inputs)
        ≡ map (listed_session_start inputs)
        (take (length (session_starts_of inputs)) (session_list (run_of inputs)))
    session_starts-first =
        let all = session_list (run_of inputs) in
        session_starts-sessions
        ∙ ap (map (listed_session_start inputs)) (early-first gone inputs.cycles all
        (sessions-rise (run_of inputs) accepted.switches.apart) ∙ ap (λ n. take n all) kept-count)

    -- Each session of the list that goes within the run is among them.
    pub session_starts-early : (c : ℕ) → c < length (session_list (run_of inputs))
        → go_of (run_of inputs).spans (listed_at (run_of inputs) c).stay.opening < inputs.cycles
        → c < length (session_starts_of inputs)
    session_starts-early c within early =
        let all = session_list (run_of inputs) in
        let count = kept-count in
        let there = early-within gone inputs.cycles all c (listed_at (run_of inputs) c)
        (sessions-rise (run_of inputs) accepted.switches.apart)
        (slice_get-get_or all c no_session within) early in
        omega (arith, there, count)

    -- Of a channel they are those of its connection.
    module _ (channel : Channel) (known : channel.conn.0 < length inputs.app.connections) where
      abbrev own : Stay → ChannelSession
      own stay = record { channel = channel; stay = stay }

      same-test : (session : ChannelSession)
          → (channel_number session.channel == channel_number channel) ≡ is_on channel session
      same-test session =
          let number = channel_number channel in
          let other = channel_number session.channel in
          elim (cases_eq number other) [
            | inl same ↦ eq-eqb other number (sym same) ∙ sym (eq-eqb number other same)
            | inr apart ↦ ne_eqb other number (λ same. apart (sym same))
                ∙ sym (ne_eqb number other apart)
          ] ∙ same_numbers channel session.channel

      pub session_starts-are : map as_session_start
          (session_starts_over (channel_number channel) (session_starts_of inputs))
          ≡ map (session_start_of inputs channel)
          (filter (λ session. nat_lt session.go inputs.cycles)
          (sessions_in (run_of inputs) channel.conn.0))
      session_starts-are =
          let over =
          λ (session_start : SessionStartData). channel_number
          session_start.channel == channel_number channel in
          let early = λ (session : ChannelSession). nat_lt (gone session) inputs.cycles in
          let now = λ (session : Session). nat_lt session.go inputs.cycles in
          let all = session_list (run_of inputs) in
          let stays = stays_of groups channel.conn.0 inputs.switches in
          let some = filter (λ (stay : Stay). early (own stay)) stays in
          let count = connections-groups_of inputs.app in
          sym (filter-map over as_session_start (session_starts_of inputs))
          ∙ ap (filter over) session_starts-sessions
          ∙ filter-map over (listed_session_start inputs) (filter early all)
          ∙ (λ k. map (listed_session_start inputs) (filter (λ (s : ChannelSession). same-test s k)
          (filter early all)))
          ∙ ap (map (listed_session_start inputs)) (filter-swap (is_on channel) early all
          ∙ ap (filter early) (sessions-on (run_of inputs) channel (omega (arith, known, count)))
          ∙ filter-map early own stays)
          ∙ map-map (listed_session_start inputs) own some
          ∙ sym (map-map (session_start_of inputs channel) (session_of spans) some)
          ∙ ap (map (session_start_of inputs channel))
          (sym (filter-map now (session_of spans) stays))

    -- They go one after the other.
    pub session_starts-ordered : IsNonDecreasingBy (λ session_start. session_start.channel_state.go)
        (session_starts_of inputs)
    session_starts-ordered =
        let go = λ (session_start : SessionStartData). session_start.channel_state.go in
        rise-from as_session_start go (session_starts_of inputs)
        (subst (λ (list : List SessionStartData). IsNonDecreasingBy go list)
        (sym session_starts-sessions)
        (rise-map go (listed_session_start inputs) kept
        (rise-filter gone (λ session. nat_lt (gone session) inputs.cycles)
        (session_list (run_of inputs))
        (sessions-rise (run_of inputs) accepted.switches.apart))))
