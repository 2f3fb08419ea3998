-- Each session has the opposite channel's beside it.
use Rattle.std.proofs.Common.{◌≡◌, ◌<◌, ◌∙◌, ℕ, length, filter, refl, sym, ap, ◌&&◌, nat_le, nat_lt}
use Rattle.std.proofs.lemmas.List.{length-map}
use Rattle.aeth_app.specs.Connections.{receiver, sender}
use Rattle.aeth_app.specs.declared.connection.Connection.{Connection}
use Rattle.aeth_base.specs.{Sides.other_side, declared.ids.CoreId.CoreId, declared.ids.Side.Side}
use Rattle.aeth_base.specs.{declared.ids.Side.TheVariants.Back, declared.ids.Side.TheVariants.Fwd}
use Rattle.aeth_base.proofs.Filters.{filter-map}
use Rattle.aeth_server.specs.PrivateServer.{accepted}
use Rattle.aeth_trace.specs.{Words.words_on, declared.words.WordRow.WordRow}
use Rattle.aeth_report.specs.Design.{connection_at, queue_at}
use Rattle.aeth_report.specs.Flows.{Run, is_within}
use Rattle.aeth_report.specs.SessionList.{ChannelSession, session_list, listed_at}
use Rattle.aeth_report.proofs.{SessionNumbers.partner-is, SessionPairs.partner-back}
use Rattle.aeth_invariant.specs.WellRouted.{IsAnswered}
use Rattle.aeth_routed_sessions.specs.RoutedSessions.{routed_sessions_over, flow_in}
use Rattle.aeth_routed_sessions.specs.RoutedSessions.{routed_session_of, row_in}

-- A channel lands at the core from which the opposite one is sent.
sends_back : (connection : Connection) (side : Side)
    → receiver connection side ≡ sender connection (other_side side)
sends_back connection Fwd = refl
sends_back connection Back = refl

module _ (run : Run) where
  pub answered : (c : ℕ) → c < length (session_list run) → IsAnswered (routed_sessions_over run) c
  answered c within =
      let other = partner-is run c within in
      let is = other.is in
      let channel = (listed_at run c).channel in
      record {
        known = other.known;
        back = partner-back c;
        remote = ap (λ (core : CoreId). queue_at run.design core channel.conn)
            (sends_back (connection_at run.design channel.conn) channel.side)
            ∙ sym (ap (λ (p : ChannelSession). (row_in run p).queue) is);
        server = sym (ap (λ (p : ChannelSession). (flow_in run p).server) is);
        slots = sym (ap (λ (p : ChannelSession). (flow_in run p).server.shape.slots) is);
        delay = sym (ap (λ (p : ChannelSession). (flow_in run p).server.shape.path_delay) is);
        since = λ i. (routed_session_of run (other.place i) (is i)).since;
        go = ap (λ (p : ChannelSession). (flow_in run p).server.go) is;
        stop = ap (λ (p : ChannelSession). (flow_in run p).server.stop) is;
        finish = ap (λ (p : ChannelSession). (flow_in run p).server.finish) is;
      }

  -- There is a value for each word that it accepts.
  pub values-accepted : (session : ChannelSession)
      → length (accepted (flow_in run session).server) ≡ length (flow_in run session).values
  values-accepted session =
      let server = (flow_in run session).server in
      let words = words_on run.words session.channel in
      let kept = filter (is_within server.go server.until) words in
      ap length (filter-map (λ (a : ℕ). nat_le server.go a && nat_lt a server.until)
      (λ (row : WordRow). row.cycle) words)
      ∙ length-map kept (λ (row : WordRow). row.cycle)
      ∙ sym (length-map kept (λ (row : WordRow). row.value))
