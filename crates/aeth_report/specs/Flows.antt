-- Flows: the sessions of all channels in a run, each with its path, its words and its private server.
--
--   Run      what a run is given
--   sessions_in      the sessions of a connection
--   close_at, server_of      the private server of a session
--   is_within, words_in, values_of      its words
--   Flow, flow_of      a session of a channel as a flow
--   flows_on      those of a channel
-- This project's own.
use Rattle.std.proofs.Common.{ℕ, ◌+◌, ◌&&◌, nat_le, nat_lt, Bool, List, filter, map, unwrap_or}
use Rattle.aeth_base.specs.Limits.{max_path_delay}
use Rattle.aeth_base.specs.declared.ids.{Channel.Channel, LinkId.LinkId}
use Rattle.aeth_server.specs.{PrivateServer.PrivateServer, Shape.buffer_of}
use Rattle.aeth_trace.specs.{Receivers.pull_at, Spans.SpanData, Words.words_on}
use Rattle.aeth_trace.specs.{declared.receivers.PullRow.PullRow}
use Rattle.aeth_trace.specs.{declared.switches.SwitchRow.SwitchRow, declared.words.WordRow.WordRow}
use Rattle.aeth_report.specs.{declared.session.Close.Close, declared.session.Session.Session}
use Rattle.aeth_report.specs.{Channels.opposite, Design.Design, Design.grant_at, Design.remote_at}
use Rattle.aeth_report.specs.{Design.shape_at, Routes.route_along, Sessions.sessions_of}

-- What a run is given: a design, how long its switches take, the rows of the three traces, and the
-- number of cycles.
pub record Run : Type 0 where
  pub design : Design
  pub spans : SpanData
  pub words : List WordRow
  pub pulls : List PullRow
  pub switches : List SwitchRow
  pub cycles : ℕ

-- The sessions of a connection.
abbrev pub sessions_in : Run → ℕ → List Session
sessions_in run c = sessions_of run.design.groups run.spans c run.switches

-- How a session closes. Where no switch closes it, it stops with the run, and finishes once all
-- that is under way by then would have landed.
abbrev pub close_at : ℕ → Session → Close
close_at cycles session =
    unwrap_or session.close
    (record { until = cycles; stop = cycles; fin = cycles + max_path_delay })

-- The private server of a channel's session.
abbrev pub server_of : Run → Channel → Session → PrivateServer
server_of run channel session =
    let shape = shape_at run.design channel session.group.0 in
    let close = close_at run.cycles session in
    record {
      shape = shape;
      buffer = buffer_of shape;
      go = session.go;
      until = close.until;
      stop = close.stop;
      finish = close.fin;
      offers = map (λ row. row.cycle) (words_on run.words channel);
      pull = pull_at run.pulls channel;
    }

-- Whether a word is offered from a cycle on and before another.
abbrev pub is_within : ℕ → ℕ → WordRow → Bool
is_within go until row = nat_le go row.cycle && nat_lt row.cycle until

-- The words that a session accepts, in file order.
abbrev pub words_in : Run → Channel → Session → List WordRow
words_in run channel session =
    filter (is_within session.go (close_at run.cycles session).until) (words_on run.words channel)

-- Their values.
abbrev pub values_of : Run → Channel → Session → List ℕ
values_of run channel session = map (λ row. row.value) (words_in run channel session)

-- A session of a channel: its path with its route, the queue at which it lands, its private server
-- and that of the opposite channel's session, which brings its credits, and the values of its words.
pub record Flow : Type 0 where
  pub path : List LinkId
  pub route : ℕ
  pub remote : ℕ
  pub server : PrivateServer
  pub back : PrivateServer
  pub values : List ℕ

-- A channel's session as a flow. The opposite channel has the same session.
abbrev pub flow_of : Run → Channel → Session → Flow
flow_of run channel session =
    let path = (grant_at run.design channel session.group.0).path in
    record {
      path = path;
      route = route_along run.design.chip.links path;
      remote = remote_at run.design channel;
      server = server_of run channel session;
      back = server_of run (opposite channel) session;
      values = values_of run channel session;
    }

-- The flows of a channel, in the order of its sessions.
abbrev pub flows_on : Run → Channel → List Flow
flows_on run channel = map (flow_of run channel) (sessions_in run channel.conn.0)
