-- The sessions of a channel, one after the other, and their numbers in the routed sessions of a
-- run.
use Rattle.std.proofs.Common.{◌≡◌, ◌≤◌, ◌<◌, ◌∙◌, ℕ, ◌+◌, List, Option, Some, None, length, max}
use Rattle.std.proofs.Common.{slice_get, refl, sym, ap, inl, inr, arith, option_map, slice_index_or}
use Rattle.std.proofs.Common.{unwrap_or}
use Rattle.std.proofs.lemmas.{Bool.cases_order, Option.slice_get-get_or}
use Rattle.std.specs.List.{AllPairs, Sorted.IsNonDecreasingBy}
use Rattle.aeth_base.specs.Limits.{max_path_delay}
use Rattle.aeth_base.specs.declared.ids.{Channel.Channel, Side.TheVariants.Fwd}
use Rattle.aeth_server.specs.PrivateServer.{PrivateServer}
use Rattle.aeth_trace.specs.Channels.{channel_number}
use Rattle.aeth_group.proofs.MemberLemmas.{connections-groups_of}
use Rattle.aeth_report.specs.Flows.{close_at, server_of, sessions_in}
use Rattle.aeth_report.specs.Sessions.{Switch, close_by, session_of}
use Rattle.aeth_report.specs.declared.session.{Close.Close, Session.Session}
use Rattle.aeth_report.specs.Sound.{IsSound}
use Rattle.aeth_report.specs.SessionList.{ChannelSession, listed_at, place_at}
use Rattle.aeth_report.proofs.{ClosingLemmas.lands_by_finish, OneFlit.session-paths}
use Rattle.aeth_report.proofs.{SessionMeetings.mapped_at, SessionOrder.sessions_after}
use Rattle.aeth_report.proofs.{StaysAlone.at-Contains, SessionNumbers.listed-among}
use Rattle.aeth_report.proofs.{SessionNumbers.numbered}
use Rattle.aeth_invariant.specs.RoutedSessions.{server_at}
use Rattle.aeth_accepted.specs.Inputs.{Inputs, run_of}
use Rattle.aeth_routed_sessions.specs.RoutedSessions.{ended, routed_sessions_of, stays_in}
use Rattle.aeth_stimuli.specs.Sessions.{IsBefore, channel_of}
use Rattle.aeth_running.proofs.ChannelsByNumber.{same-connection}

module _ (inputs : Inputs) (sound : IsSound (run_of inputs)) where
  module _ (c : ℕ) where
    abbrev sessions : List Session
    sessions = sessions_in (run_of inputs) c

    -- A session accepts words no longer than it sends.
    accepts-sending : (i : ℕ) (session : Session) → slice_get sessions i ≡ Some session
        → (close_at inputs.cycles session).until ≤ (close_at inputs.cycles session).stop
    accepts-sending i session at =
        let spans = (run_of inputs).spans in
        let stay = mapped_at (session_of spans) _ i session at in
        let past : Close = record {
          until = inputs.cycles;
          stop = inputs.cycles;
          fin = inputs.cycles + max_path_delay;
        } in
        let close : option_map (close_by spans) stay.0.closing ≡ session.close =
        ap (λ (s : Session). s.close) stay.2 in
        let cases : (o : Option Switch)
        → (unwrap_or (option_map (close_by spans) o) past).until
        ≤ (unwrap_or (option_map (close_by spans) o) past).stop = elim [
          | None ↦ omega arith
          | Some switch ↦ omega arith
        ] in
        rw (← close) (cases stay.0.closing)

    module _ (apart : (i j : ℕ) (one other : Session) → i < j → slice_get sessions i ≡ Some one
        → slice_get sessions j ≡ Some other → IsBefore one other) where
      -- An earlier session is over when a later one goes.
      pub record IsOver (one other : Session) : Type 0 where
        pub goes : one.go ≤ (close_at inputs.cycles one).until
        pub accepts : (close_at inputs.cycles one).until < (close_at inputs.cycles one).fin
        pub finishes : (close_at inputs.cycles one).fin ≤ other.go

      pub is-over : (i j : ℕ) (one other : Session) → i < j → slice_get sessions i ≡ Some one
          → slice_get sessions j ≡ Some other → IsOver one other
      is-over i j one other less at_one at_other =
          let before = apart i j one other less at_one at_other in
          let channel : Channel = record { conn = record { 0 = c }; side = Fwd } in
          let has = at-Contains sessions i one at_one in
          let lands = lands_by_finish (run_of inputs) sound channel one has in
          let path = (session-paths (run_of inputs) sound channel one has).path in
          let sends = accepts-sending i one at_one in
          let close : close_at inputs.cycles one ≡ before.closed =
          ap (λ (o : Option Close). unwrap_or o (record {
            until = inputs.cycles;
            stop = inputs.cycles;
            fin = inputs.cycles + max_path_delay;
          })) before.is in
          let after = sessions_after (run_of inputs).design.groups (run_of inputs).spans
          inputs.switches c sound.apart one has before.closed before.is in
          let until : (close_at inputs.cycles one).until ≡ before.closed.until =
          ap (λ (z : Close). z.until) close in
          let fin : (close_at inputs.cycles one).fin ≡ before.closed.fin =
          ap (λ (z : Close). z.fin) close in
          let order = before.order in
          record { goes = omega arith; accepts = omega arith; finishes = omega arith }

      -- So they are in the order in which they go.
      pub sessions-ordered : IsNonDecreasingBy (λ session. session.go) (sessions_in (run_of inputs) c)
      sessions-ordered i j default up within = elim (cases_order i j) [
        | inl same ↦
            let equal = ap (λ k. (slice_index_or sessions k default).go) same in omega arith
        | inr (inl less) ↦
            let one = slice_get-get_or sessions i default (omega arith) in
            let other = slice_get-get_or sessions j default within in
            let over = is-over i j _ _ less one other in
            let goes = over.goes in
            let accepts = over.accepts in
            let finishes = over.finishes in
            omega arith
        | inr (inr more) ↦ absurd (omega arith)
      ]

      -- And none goes while an earlier one accepts words.
      pub accept-alone : AllPairs (λ one other. (close_at inputs.cycles one).until ≤ other.go)
          (sessions_in (run_of inputs) c)
      accept-alone i j default less within =
          let one = slice_get-get_or sessions i default (omega arith) in
          let other = slice_get-get_or sessions j default within in
          let over = is-over i j _ _ less one other in
          let accepts = over.accepts in
          let finishes = over.finishes in
          omega arith

  module _ (channel : Channel) (known : channel.conn.0 < length inputs.app.connections) where
    -- A session of the channel by its number in the routed sessions.
    pub record HasNumber (session : Session) : Type 0 where
      pub number : ℕ
      pub within : number < (routed_sessions_of inputs).count
      pub channel_is : channel_of inputs number ≡ channel_number channel
      pub server_is : server_at (routed_sessions_of inputs) number
          ≡ server_of (run_of inputs) channel (ended inputs.cycles session)

    pub has-number : (i : ℕ) (session : Session)
        → slice_get (sessions_in (run_of inputs) channel.conn.0) i ≡ Some session
        → HasNumber session
    has-number i session at =
        let run = run_of inputs in
        let stay = mapped_at (session_of run.spans) (stays_in run channel.conn.0) i session at in
        let count = connections-groups_of inputs.app in
        let found = numbered run channel i stay.0 (omega arith) stay.1 in
        let there = found.is in
        record {
          number = found.number;
          within = found.known;
          channel_is = ap (λ (p : ChannelSession). channel_number p.channel) there;
          server_is = ap (λ (p : ChannelSession). server_of run p.channel
              (ended inputs.cycles (session_of run.spans p.stay))) there
              ∙ ap (λ (s : Session). server_of run channel (ended inputs.cycles s)) stay.2;
        }

    -- A session that goes within the run stops with it.
    pub ended-server : (session : Session) → session.go ≤ inputs.cycles
        → server_of (run_of inputs) channel (ended inputs.cycles session)
        ≡ server_of (run_of inputs) channel session
    ended-server session early =
        let server : ℕ → PrivateServer = λ stop. server_of (run_of inputs) channel (record session {
          close = Some (unwrap_or session.close (record {
            until = inputs.cycles;
            stop = stop;
            fin = stop + max_path_delay;
          }));
        }) in
        let same : max inputs.cycles session.go ≡ inputs.cycles = omega arith in
        ap server same

    -- Each routed session on the channel is one of its sessions.
    pub record IsAmong (d : ℕ) : Type 0 where
      pub place : ℕ
      pub session : Session
      pub at : slice_get (sessions_in (run_of inputs) channel.conn.0) place ≡ Some session
      pub go : (server_at (routed_sessions_of inputs) d).go ≡ session.go

    pub is-among : (d : ℕ) → d < (routed_sessions_of inputs).count
        → channel_of inputs d ≡ channel_number channel → IsAmong d
    is-among d within same =
        let run = run_of inputs in
        let own = listed_at run d in
        let connection = same-connection own.channel channel same in
        record {
          place = place_at run d;
          session = session_of run.spans own.stay;
          at = ap (λ n. slice_get (sessions_in run n) (place_at run d)) (sym connection)
              ∙ listed-among run d within;
          go = refl;
        }
