-- The sessions of a connection: when its channels are in use, over the rows of a list of switches.
-- The first row loads its use case before cycle 0. Each later row leaves the use case that was
-- loaded: it stops the channels that it closes once it has drained, waits for what is under way,
-- and then makes its writes, one in a cycle. A connection that it keeps goes on.
--
--   closes, opens      whether a switch closes and opens a connection
--   Switch, close_by, go_by      a row with the use case that it leaves, and when channels close and
--                                open by it
--   Stay      which switches open and close a connection
--   closing_in, stay_with      the switch that closes it, and a stay before others
--   stays_behind, stays_from, stays_of      the stays over a list of rows
--   session_of, sessions_of      their sessions
--   IsInUse, MayInject, AreTogether      what holds of a session in a cycle, and of two connections
-- Slot tables that are written while the network runs: after Æthereal (2005). Channels that go on
-- through a switch: this project's own.
use Rattle.std.proofs.Common.{◌≡◌, ◌≤◌, ◌<◌, ℕ, ◌+◌, ◌&&◌, not, Bool, IsTrue, if◌then◌else◌, List}
use Rattle.std.proofs.Common.{[], ◌∷◌, Option, Some, None, IfSome, map, option_map}
use Rattle.aeth_group.specs.Members.{GroupsData, group_at, has_at, is_kept}
use Rattle.aeth_trace.specs.{Spans.SpanData, Spans.span_of, Switches.go_after}
use Rattle.aeth_trace.specs.{declared.switches.SwitchRow.SwitchRow}
use Rattle.aeth_report.specs.declared.session.{Close.Close, Session.Session}

-- Whether a switch from one use case to another closes a connection: the one that is left has it,
-- and it isn't kept.
abbrev pub closes : GroupsData → ℕ → ℕ → ℕ → Bool
closes groups u v c = has_at groups u c && not (is_kept groups u v c)

-- Whether it opens a connection: the one that is entered has it, and it isn't kept.
abbrev pub opens : GroupsData → ℕ → ℕ → ℕ → Bool
opens groups u v c = has_at groups v c && not (is_kept groups u v c)

-- A row, and the use case that it leaves.
pub record Switch : Type 0 where
  pub leaves : ℕ
  pub row : SwitchRow

-- How the channels close that a switch closes: they accept words before its cycle, send through its
-- drain, and are finished once what was sent has landed.
abbrev pub close_by : SpanData → Switch → Close
close_by spans switch = record {
  until = switch.row.cycle;
  stop = switch.row.cycle + switch.row.drain;
  fin = switch.row.cycle + switch.row.drain + (span_of spans switch.leaves switch.row.to.0).0;
}

-- The cycle from which on the channels are in use that a switch opens.
abbrev pub go_by : SpanData → Switch → ℕ
go_by spans switch = go_after spans switch.leaves switch.row

-- A stay of a connection: the group by whose grants it is in use, the switch that opens it, where it
-- isn't loaded before cycle 0, and the switch that closes it, where one does.
pub record Stay : Type 0 where
  pub group : ℕ
  pub opening : Option Switch
  pub closing : Option Switch

module _ (groups : GroupsData) (c : ℕ) where
  -- The switch that closes a connection of use case u: the first that doesn't keep it.
  abbrev pub closing_in : ℕ → List SwitchRow → Option Switch
  closing_in u [] = None
  closing_in u (row ∷ rows) =
      if is_kept groups u row.to.0 c then closing_in row.to.0 rows
      else Some (record { leaves = u; row = row })

  -- The stay that comes with use case u, where the test says so, before others.
  abbrev pub stay_with : Bool → Option Switch → ℕ → List SwitchRow → List Stay → List Stay
  stay_with opened opening u rows later =
      if opened
      then record { group = group_at groups u; opening = opening; closing = closing_in u rows }
      ∷ later
      else later

  -- The stays that rows open, the first of which leaves use case u.
  abbrev pub stays_behind : ℕ → List SwitchRow → List Stay
  stays_behind u [] = []
  stays_behind u (row ∷ rows) =
      stay_with (opens groups u row.to.0 c) (Some (record { leaves = u; row = row })) row.to.0
      rows (stays_behind row.to.0 rows)

  -- The stays from use case u on, which comes by this switch, over the rows that follow.
  abbrev pub stays_from : Option Switch → ℕ → List SwitchRow → List Stay
  stays_from opening u rows = stay_with (has_at groups u c) opening u rows (stays_behind u rows)

  -- The stays of a list of switches.
  abbrev pub stays_of : List SwitchRow → List Stay
  stays_of [] = []
  stays_of (first ∷ rows) = stays_from None first.to.0 rows

-- The cycle from which on a stay is in use.
abbrev pub go_of : SpanData → Option Switch → ℕ
go_of spans None = 0
go_of spans (Some switch) = go_by spans switch

-- A stay's session.
abbrev pub session_of : SpanData → Stay → Session
session_of spans stay = record {
  go = go_of spans stay.opening;
  group = record { 0 = stay.group };
  close = option_map (close_by spans) stay.closing;
}

-- The sessions of a connection over a list of switches.
abbrev pub sessions_of : GroupsData → SpanData → ℕ → List SwitchRow → List Session
sessions_of groups spans c rows = map (session_of spans) (stays_of groups c rows)

-- A session is in use in a cycle: it goes, and isn't finished.
pub record IsInUse (session : Session) (t : ℕ) : Type 0 where
  pub goes : session.go ≤ t
  pub unfinished : IfSome session.close (λ close. t < close.fin)

-- A session may inject a flit in a cycle: it goes, and hasn't stopped.
pub record MayInject (session : Session) (u : ℕ) : Type 0 where
  pub goes : session.go ≤ u
  pub unstopped : IfSome session.close (λ close. u < close.stop)

-- Two connections are together in a group: one of its use cases has both.
pub record AreTogether (groups : GroupsData) (group c d : ℕ) : Type 0 where
  pub use_case : ℕ
  pub in_group : group_at groups use_case ≡ group
  pub first : IsTrue (has_at groups use_case c)
  pub second : IsTrue (has_at groups use_case d)
