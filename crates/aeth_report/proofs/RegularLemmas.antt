-- The log of a run is regular.
use Rattle.std.proofs.Common.{◌≡◌, ◌≤◌, ◌<◌, ◌∙◌, ℕ, ◌+◌, ◌&&◌, true, false, List, [], ◌∷◌, Option}
use Rattle.std.proofs.Common.{Some, None, filter, slice_get, refl, sym, ap, subst, inl, inr, arith}
use Rattle.std.proofs.Common.{nat_le, nat_lt, IfSome, option_map, leb-true, le-ltb, lt-ltb}
use Rattle.std.proofs.Common.{ltb-true}
use Rattle.std.proofs.lemmas.Bool.{and_parts, cases_Bool, cases_lt, lt-leb}
use Rattle.std.specs.List.{count_by, sum_by}
use Rattle.aeth_base.{specs.declared.ids.Channel.Channel, proofs.Lists.sum_by-map}
use Rattle.aeth_server.specs.{FinishTimes.arrivals_before, PrivateServer.arrived}
use Rattle.aeth_trace.specs.{Spans.SpanData, Words.words_on, declared.words.WordRow.WordRow}
use Rattle.aeth_report.specs.{declared.session.Session.Session, Flows.Flow, Flows.Run}
use Rattle.aeth_report.specs.{Flows.close_at, Flows.flow_of, Flows.flows_on, Flows.is_within}
use Rattle.aeth_report.specs.{Flows.sessions_in, Log.SessionData, Regular.offered_in}
use Rattle.aeth_report.specs.{RunLog.channel_log, RunLog.flow_log, RunLog.is_accepted}
use Rattle.aeth_report.specs.{Sessions.IsInUse, Sessions.Stay, Sessions.Switch, Sessions.close_by}
use Rattle.aeth_report.specs.{Sessions.session_of, Sessions.stays_of, Sound.IsSound}
use Rattle.aeth_report.proofs.Accounts.{accepts, accounted, arrivals-accepts, flow_accepts}
use Rattle.aeth_report.proofs.Accounts.{is_before}
use Rattle.aeth_report.proofs.SessionMeetings.{mapped_at, sessions_alone}
use Rattle.aeth_report.proofs.Sums.{count_by-sole, sum_by-filter}

-- ---- what one channel accepts

-- Nothing has arrived before the session goes.
arrivals-none : (cycles go until : ℕ) (offers : List ℕ) → cycles ≤ go
    → arrivals_before (filter (λ a. nat_le go a && nat_lt a until) offers) cycles ≡ 0
arrivals-none cycles go until [] late = refl
arrivals-none cycles go until (a ∷ offers) late =
    let rest = arrivals-none cycles go until offers late in
    elim (cases_lt a go) [
      | inl early ↦ rw (lt-leb go a early) rest
      | inr after ↦ elim (cases_Bool (nat_le go a && nat_lt a until)) [
        | inl is ↦ rw (is, le-ltb a cycles (omega arith)) rest
        | inr isnt ↦ rw isnt rest
      ]
    ]

module _ (run : Run) (channel : Channel) where
  abbrev words : List WordRow
  words = words_on run.words channel

  abbrev sessions : List Session
  sessions = sessions_in run channel.conn.0

  -- What a session of the channel accepts in the run.
  abbrev takes_in : Session → ℕ
  takes_in session =
      accepts run.cycles words session.go (close_at run.cycles session).until

  -- The offered words of the channel's sessions are those that its flows accept.
  pub offered_in-accepts : offered_in (channel_log run channel)
      ≡ sum_by (flow_accepts run.cycles words) (flows_on run channel)
  offered_in-accepts =
      let flows = flows_on run channel in
      let going = λ (flow : Flow). nat_lt flow.server.go run.cycles in
      let offers = λ (flow : Flow). arrived flow.server run.cycles in
      let none : (i : ℕ) (flow : Flow) → slice_get flows i ≡ Some flow → going flow ≡ false
      → offers flow ≡ 0 = λ i flow at late.
      arrivals-none run.cycles flow.server.go flow.server.until flow.server.offers (
      elim (cases_lt flow.server.go run.cycles) [
        | inl early ↦ absurd (cc (rw (lt-ltb flow.server.go run.cycles early) at late))
        | inr after ↦ after
      ]) in
      sum_by-map (λ (s : SessionData). s.offered) (flow_log run.cycles) (filter going flows)
      ∙ sum_by-filter offers going flows none
      ∙ sum_by-map offers (flow_of run channel) sessions
      ∙ (λ k. sum_by (λ (s : Session). arrivals-accepts run.cycles s.go
      (close_at run.cycles s).until words k) sessions)
      ∙ sym (sum_by-map (flow_accepts run.cycles words) (flow_of run channel) sessions)

  -- A session that accepts a word is in use in its cycle.
  used-accepting : (spans : SpanData) (stay : Stay) (row : WordRow)
      → let session = session_of spans stay in
      is_within session.go (close_at run.cycles session).until row ≡ true
      → IsInUse session row.cycle
  used-accepting spans stay row within =
      let session = session_of spans stay in
      let until = (close_at run.cycles session).until in
      let parts = and_parts (nat_le session.go row.cycle) (nat_lt row.cycle until) within in
      let cases : (o : Option Switch)
      → row.cycle < (close_at run.cycles (record session { close = option_map (close_by spans) o })).until
      → IfSome (option_map (close_by spans) o) (λ close. row.cycle < close.fin) = elim [
        | None ↦ λ below. tt
        | Some switch ↦ λ below. omega arith
      ] in
      record {
        goes = leb-true session.go row.cycle parts.0;
        unfinished = cases stay.closing (ltb-true row.cycle until parts.1);
      }

  module _ (sound : IsSound run) where
    -- No two of the channel's flows accept one word.
    accepted-once : (row : WordRow) → count_by (is_accepted row) (flows_on run channel) ≤ 1
    accepted-once row =
        let stays = stays_of run.design.groups channel.conn.0 run.switches in
        let used : (i : ℕ) (s : Session) → slice_get sessions i ≡ Some s
        → is_within s.go (close_at run.cycles s).until row ≡ true → IsInUse s row.cycle =
        λ i s at within.
        let stay = mapped_at (session_of run.spans) stays i s at in
        subst (λ (z : Session). IsInUse z row.cycle) stay.2 (used-accepting run.spans stay.0 row
        (subst (λ (z : Session). is_within z.go (close_at run.cycles z).until row ≡ true)
        (sym stay.2) within)) in
        count_by-sole (is_accepted row) (flows_on run channel) (λ i j x y at_x at_y takes too.
        let one = mapped_at (flow_of run channel) sessions i x at_x in
        let two = mapped_at (flow_of run channel) sessions j y at_y in
        let first = subst (λ (f : Flow). is_accepted row f ≡ true) (sym one.2) takes in
        let second = subst (λ (f : Flow). is_accepted row f ≡ true) (sym two.2) too in
        sessions_alone run.design.groups run.spans run.switches channel.conn.0 row.cycle
        sound.apart i j one.0 two.0 one.1 two.1 (used i one.0 one.1 first)
        (used j two.0 two.1 second))

    -- Each word of the channel that is offered in the run is accepted by one session, or is outside.
    pub channel-accounted : offered_in (channel_log run channel) + (channel_log run channel).outside
        ≡ count_by (is_before run.cycles) words
    channel-accounted =
        ap (λ n. n + (channel_log run channel).outside) offered_in-accepts
        ∙ accounted run.cycles (flows_on run channel) words accepted-once
