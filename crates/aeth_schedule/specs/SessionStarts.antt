-- The sessions of a run in the order in which they go.
--
--   channel_state_with, session_start_with      a session of the channel of a line, by when it goes and closes
--   session_by, session_start_in, session_start_by      the session of a connection that comes with a use case
--   session_starts_behind, session_starts_from, session_starts_over, session_starts_of      those of rows, and of a run
-- Channels that go on through a switch: this project's own.
use Rattle.std.proofs.Common.{ℕ, ◌+◌, ◌-◌, min, nat_lt, List, [], ◌∷◌, ◌++◌, filter, map, Option}
use Rattle.std.proofs.Common.{Some, None}
use Rattle.aeth_group.specs.Members.{GroupsData, group_at, groups_of}
use Rattle.aeth_trace.specs.Spans.{SpanData}
use Rattle.aeth_trace.specs.declared.{switches.SwitchRow.SwitchRow, words.WordRow.WordRow}
use Rattle.aeth_report.specs.declared.session.{Close.Close, Session.Session}
use Rattle.aeth_report.specs.Flows.{close_at}
use Rattle.aeth_report.specs.Sessions.{Switch, closing_in, go_of, session_of}
use Rattle.aeth_components.specs.declared.channel_state.ChannelState.{ChannelState}
use Rattle.aeth_accepted.specs.Inputs.{Inputs, run_of}
use Rattle.aeth_schedule.specs.Lines.{all_lines, changed_lines, end_of, lines_at}
use Rattle.aeth_schedule.specs.Values.{before_of, start_of}
use Rattle.aeth_schedule.specs.declared.{session_start.SessionStart.SessionStart, lines.Line.Line}

module _ (words : List WordRow) where
  -- A channel whose session goes in a cycle, and so closes: nothing of it is done.
  abbrev pub channel_state_with : Line → ℕ → Close → ChannelState
  channel_state_with line go close = record {
    sender = end_of line.row;
    receiver = line.receiver;
    go = go;
    fin = close.fin;
    first = start_of words line.row.channel + before_of words line.row.channel go;
    accepted = 0;
    pull = 0;
    enqueued = 0;
    landed = 0;
    taken = 0;
  }

  -- Such a session, in a run of so many cycles.
  abbrev pub session_start_with : ℕ → Line → ℕ → Close → SessionStart
  session_start_with cycles line go close =
      let channel = line.row.channel in
      record {
        channel = channel;
        shape = line.shape;
        until = close.until;
        before = before_of words channel go;
        count = before_of words channel (min close.until cycles) - before_of words channel go;
        channel_state = channel_state_with line go close;
      }

-- The session of a connection that comes with use case u by this switch, over the rows that follow.
abbrev pub session_by : GroupsData → SpanData → Option Switch → ℕ → List SwitchRow → ℕ → Session
session_by groups spans opening u rows c = session_of spans (record {
  group = group_at groups u;
  opening = opening;
  closing = closing_in groups c u rows;
})

-- A session of the channel of a line, which goes in a cycle with use case u.
abbrev pub session_start_in : GroupsData → SpanData → List WordRow → ℕ → ℕ → ℕ → List SwitchRow
    → Line
    → SessionStart
session_start_in groups spans words cycles go u rows line =
    session_start_with words cycles line go
    (close_at cycles (session_by groups spans None u rows line.row.channel.conn.0))

module _ (groups : GroupsData) (spans : SpanData) (all : List (List Line)) (words : List WordRow)
    (cycles : ℕ) where
  -- That of the channel of a line, which comes by this switch.
  abbrev pub session_start_by : Option Switch → ℕ → List SwitchRow → Line → SessionStart
  session_start_by opening u rows line =
      session_start_in groups spans words cycles (go_of spans opening) u rows line

  -- The sessions that rows open, the first of which leaves use case u: those of the channels that it
  -- doesn't keep, in channel order.
  abbrev pub session_starts_behind : ℕ → List SwitchRow → List SessionStart
  session_starts_behind u [] = []
  session_starts_behind u (row ∷ rows) =
      map (session_start_by (Some (record { leaves = u; row = row })) row.to.0 rows)
      (changed_lines groups u row.to.0 (lines_at all row.to.0))
      ++ session_starts_behind row.to.0 rows

  -- Those of a list of rows: first those of the use case that is loaded.
  abbrev pub session_starts_from : List SwitchRow → List SessionStart
  session_starts_from [] = []
  session_starts_from (first ∷ rows) =
      map (session_start_by None first.to.0 rows) (lines_at all first.to.0)
      ++ session_starts_behind first.to.0 rows

-- Those that go within so many cycles.
abbrev pub session_start_within : ℕ → List SessionStart → List SessionStart
session_start_within cycles session_starts =
    filter (λ one. nat_lt one.channel_state.go cycles) session_starts

-- The sessions of a run.
unfoldable pub session_starts_of : Inputs → List SessionStart
session_starts_of inputs =
    session_start_within inputs.cycles (session_starts_from (groups_of inputs.app)
    (run_of inputs).spans (all_lines inputs) inputs.words inputs.cycles inputs.switches)
