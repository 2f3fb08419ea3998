-- Cycles of a run in which nothing happens.
--
--   FallsOn      a cycle in which a switch does something
--   IsIdleCycle      a cycle in which no link carries a flit, no word is offered or taken, and no switch does
--               anything
--   IsNextBusyOf      the next cycle of a run that isn't idle
-- This project's own.
use Rattle.std.proofs.Common.{◌≡◌, ◌≤◌, ◌<◌, ◌+◌, ℕ, [], Contains}
use Rattle.aeth_base.specs.declared.ids.{Channel.Channel, LinkId.LinkId}
use Rattle.aeth_chip.specs.Paths.{delay_of}
use Rattle.aeth_server.specs.PrivateServer.{taken}
use Rattle.aeth_trace.specs.{Spans.SpanData, declared.words.WordRow.WordRow}
use Rattle.aeth_report.specs.{Carries.carries, Flows.Run, Flows.server_of, Flows.sessions_in}
use Rattle.aeth_report.specs.{Sessions.Switch, Sessions.close_by, Sessions.go_by}
use Rattle.aeth_report.specs.{declared.session.Session.Session}
use Rattle.aeth_schedule.specs.{Switching.later_switches, Windows.IsCycleOf}

-- In a cycle a switch stops words or channels, or has finished these, writes, or lets others go.
abbrev pub FallsOn : SpanData → Switch → ℕ → Type 0
FallsOn spans switch t =
    let close = close_by spans switch in
    IsCycleOf close.until close.stop close.fin (go_by spans switch) t

-- Nothing happens in a cycle of a run: no link has a flit on its way, as the cycle begins or in it, no
-- word is offered, no receiver takes a word, and no switch does anything. The first row of switches is
-- none: it loads its use case before cycle 0.
pub record IsIdleCycle (run : Run) (t : ℕ) : Type 0 where
  pub now : (link : LinkId) (j u : ℕ) → j < delay_of run.design.chip.links link → u + j ≡ t
      → carries run link.0 u ≡ []
  pub before : (link : LinkId) (j u : ℕ) → j < delay_of run.design.chip.links link → u + j + 1 ≡ t
      → carries run link.0 u ≡ []
  pub unoffered : (row : WordRow) → Contains run.words row → row.cycle ≡ t → ⊥
  pub untaken : (channel : Channel) (session : Session)
      → channel.conn.0 < run.design.groups.connections
      → Contains (sessions_in run channel.conn.0) session
      → taken (server_of run channel session) (t + 1) ≡ taken (server_of run channel session) t
  pub unswitched : (switch : Switch) → Contains (later_switches run.switches) switch
      → FallsOn run.spans switch t → ⊥

-- From a cycle on, and before the end of a run, the next one that isn't idle; the end where there is none.
pub record IsNextBusyOf (run : Run) (from end t : ℕ) : Type 0 where
  pub since : from ≤ t
  pub within : t ≤ end
  pub idle : (earlier : ℕ) → from ≤ earlier → earlier < t → IsIdleCycle run earlier
  pub busy : t < end → IsIdleCycle run t → ⊥
