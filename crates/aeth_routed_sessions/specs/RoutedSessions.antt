-- The routed sessions of a run: its chip's wires, and each session of each channel over them.
--
--   stays_in      the stays of a connection in a run
--   ended      a session that stops with the run
--   session_in, flow_in, row_in      a session of a channel, with its flow and row
--   freed_in, slot_at, slot_set_in, slot_freed_in      when its tables are written
--   routed_session_of      a session as it is routed
--   routed_sessions_over, routed_sessions_of      the routed sessions of a run, and of inputs
-- This project's own.
use Rattle.std.proofs.Common.{ℕ, ◌+◌, ◌==◌, ◌&&◌, List, Option, Some, None, length, max, unwrap_or}
use Rattle.std.specs.List.{position_or_len}
use Rattle.aeth_base.specs.Limits.{max_path_delay}
use Rattle.aeth_ni.specs.declared.row.ChannelRow.{ChannelRow}
use Rattle.aeth_report.specs.Flows.{Flow, Run, flow_of}
use Rattle.aeth_report.specs.Sessions.{Stay, Switch, close_by, session_of, stays_of}
use Rattle.aeth_report.specs.declared.session.Session.{Session}
use Rattle.aeth_report.specs.SessionList.{ChannelSession, session_list, listed_at, partner_of}
use Rattle.aeth_report.specs.SessionList.{place_at}
use Rattle.aeth_reconf.specs.Windows.{cleared_of, freed_of, set_of, since_of, slot_set_of}
use Rattle.aeth_invariant.specs.RoutedSessions.{RoutedSessions, RoutedSession}
use Rattle.aeth_accepted.specs.Inputs.{Inputs, row_at, run_of}
use Rattle.aeth_routed_sessions.specs.Paths.{routers_passed_along, wires_along}
use Rattle.aeth_routed_sessions.specs.Wiring.{routed_sessions_on}

-- The stays of a connection in a run.
abbrev pub stays_in : Run → ℕ → List Stay
stays_in run c = stays_of run.design.groups c run.switches

-- A session, closed with the run where no switch closes it. It stops with the run then, or as it
-- goes where that is later, and finishes once all that is under way by then would have landed.
abbrev pub ended : ℕ → Session → Session
ended cycles session = record session {
  close = Some (unwrap_or session.close (record {
    until = cycles;
    stop = max cycles session.go;
    fin = max cycles session.go + max_path_delay;
  }));
}

module _ (run : Run) where
  -- A session of a channel, with its cycles.
  abbrev pub session_in : ChannelSession → Session
  session_in session = ended run.cycles (session_of run.spans session.stay)

  -- Its flow.
  abbrev pub flow_in : ChannelSession → Flow
  flow_in session = flow_of run session.channel (session_in session)

  -- Its row.
  abbrev pub row_in : ChannelSession → ChannelRow
  row_in session = row_at run.design session.stay.group session.channel

  -- When its route is cleared: behind its finish where no switch does it.
  abbrev pub freed_by : ChannelSession → Option Switch → ℕ
  freed_by session None = (flow_in session).server.finish + 1
  freed_by session (Some switch) =
      freed_of run.design.groups (row_at run.design) run.spans session.stay.group session.channel
      switch

  abbrev pub freed_in : ChannelSession → ℕ
  freed_in session = freed_by session session.stay.closing

  -- The place of a slot among its slots.
  abbrev pub slot_at : ChannelSession → ℕ → ℕ
  slot_at session slot = position_or_len (λ own. slot == own) (row_in session).slots.slots

  -- When its entry of a slot is set.
  abbrev pub slot_set_in : ChannelSession → ℕ → ℕ
  slot_set_in session slot =
      slot_set_of run.design.groups (row_at run.design) run.spans session.channel
      session.stay.opening (slot_at session slot)

  -- When that is cleared.
  abbrev pub cleared_by : ChannelSession → ℕ → Option Switch → ℕ
  cleared_by session place None = (flow_in session).server.finish + 1
  cleared_by session place (Some switch) =
      cleared_of run.design.groups (row_at run.design) run.spans session.channel switch place

  abbrev pub slot_freed_in : ChannelSession → ℕ → ℕ
  slot_freed_in session slot = cleared_by session (slot_at session slot) session.stay.closing

  -- When the use case is entered with which a session comes: once what the switch closes is
  -- finished.
  abbrev pub entered_by : Option Switch → ℕ
  entered_by None = 0
  entered_by (Some switch) = (close_by run.spans switch).fin

  -- A session as it is routed, by its place among those of its channel.
  abbrev pub routed_session_of : ℕ → ChannelSession → RoutedSession
  routed_session_of place session = record {
    flow = flow_in session;
    ni = (row_in session).ni.0;
    queue = (row_in session).queue;
    wires = wires_along run.design.chip.links (flow_in session).path;
    routers_passed = routers_passed_along run.design.chip.links (flow_in session).path;
    since = since_of run.spans (stays_in run session.channel.conn.0) place;
    set = set_of run.design.groups (row_at run.design) run.spans session.channel
        session.stay.opening;
    freed = freed_in session;
    slot_set = slot_set_in session;
    slot_freed = slot_freed_in session;
    entered = entered_by session.stay.opening;
  }

  -- The routed sessions of a run.
  abbrev pub routed_sessions_over : RoutedSessions
  routed_sessions_over = routed_sessions_on run.design.chip (length (session_list run))
      (λ c. routed_session_of (place_at run c) (listed_at run c)) partner_of

-- The routed sessions of inputs: that of their run.
abbrev pub routed_sessions_of : Inputs → RoutedSessions
routed_sessions_of inputs = routed_sessions_over (run_of inputs)
