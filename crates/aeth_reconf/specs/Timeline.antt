-- The sessions of all connections over a list of switches.
--
--   timeline_of, sessions_at      the sessions of all connections, and those of one
--   begun, closed_of      the session that begins with a use case, and that a switch closes
--   rest_of      what is still to come of a connection's sessions
-- This project's own.
use Rattle.std.proofs.Common.{ℕ, List, [], ◌∷◌, map, option_map, Option, Some, None, if◌then◌else◌}
use Rattle.std.specs.List.{range_with_len, slice_index_or}
use Rattle.aeth_group.specs.Members.{GroupsData, group_at, has_at}
use Rattle.aeth_trace.specs.{Spans.SpanData, declared.switches.SwitchRow.SwitchRow}
use Rattle.aeth_report.specs.declared.session.Session.{Session}
use Rattle.aeth_report.specs.Sessions.{Switch, close_by, closing_in, session_of, sessions_of}
use Rattle.aeth_report.specs.Sessions.{stays_behind}

-- For each connection its sessions.
abbrev pub timeline_of : GroupsData → SpanData → List SwitchRow → List (List Session)
timeline_of groups spans rows =
    map (λ c. sessions_of groups spans c rows) (range_with_len 0 groups.connections)

-- The sessions of a connection; none where there is no such connection.
abbrev pub sessions_at : List (List Session) → ℕ → List Session
sessions_at timeline c = slice_index_or timeline c []

-- The session that begins with a use case in a cycle, where the use case has the connection.
abbrev pub begun : GroupsData → ℕ → ℕ → ℕ → Option Session
begun groups c u go =
    if has_at groups u c
    then Some (record { go = go; group = record { 0 = group_at groups u }; close = None })
    else None

-- The open session, if one is, which a switch closes.
abbrev pub closed_of : SpanData → Switch → Option Session → List Session
closed_of spans switch None = []
closed_of spans switch (Some session) =
    record session { close = Some (close_by spans switch) } ∷ []

-- A connection's sessions over the rows that are left, the first of which leaves use case u: the one
-- that is open, if one is, which the first row closes that doesn't keep it, and those that rows open.
abbrev pub rest_of : GroupsData → SpanData → ℕ → Option Session → ℕ → List SwitchRow
    → List Session
rest_of groups spans c None u rows = map (session_of spans) (stays_behind groups c u rows)
rest_of groups spans c (Some session) u rows =
    record session { close = option_map (close_by spans) (closing_in groups c u rows) }
    ∷ map (session_of spans) (stays_behind groups c u rows)
