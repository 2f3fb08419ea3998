-- The cycles of switches.
--
--   IsCycleOf      a cycle in which a switch does something, by when it stops and writes
--   window_by, windows_over      the window of a switch, and those of the switches of rows
--   IsInWindow      a cycle is one of a window
-- This project's own.
use Rattle.std.proofs.Common.{◌≡◌, ◌≤◌, ℕ, List, map}
use Rattle.aeth_trace.specs.{Spans.SpanData, declared.switches.SwitchRow.SwitchRow}
use Rattle.aeth_report.specs.Sessions.{Switch, close_by, go_by}
use Rattle.aeth_schedule.specs.{Switching.later_switches, declared.windows.Window.Window}

-- In a cycle a switch does something, which stops words, stops channels, has finished them, and lets
-- others go in these cycles: it stops words or channels then, or it is done with what closes and what
-- it opens doesn't go yet, so that it writes, or it has just come to that.
pub data IsCycleOf (until stop fin go t : ℕ) : Type 0 where
  StopsWords : until ≡ t → IsCycleOf until stop fin go t
  StopsChannels : stop ≡ t → IsCycleOf until stop fin go t
  Writes : fin ≤ t → t ≤ go → IsCycleOf until stop fin go t

-- The window of a switch.
abbrev pub window_by : SpanData → Switch → Window
window_by spans switch = record {
  until = (close_by spans switch).until;
  stop = (close_by spans switch).stop;
  fin = (close_by spans switch).fin;
  go = go_by spans switch;
}

-- Those of the switches of rows.
abbrev pub windows_over : SpanData → List SwitchRow → List Window
windows_over spans rows = map (window_by spans) (later_switches rows)

-- A cycle is one of a window.
abbrev pub IsInWindow : Window → ℕ → Type 0
IsInWindow window t = IsCycleOf window.until window.stop window.fin window.go t
