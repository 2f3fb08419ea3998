-- A schedule by its parts.
-- This project's own.
use Rattle.std.proofs.Common.{List, map}
use Rattle.aeth_schedule.specs.{ByLine.session_starts_at, Schedule.ScheduleData}
use Rattle.aeth_schedule.specs.{declared.lines.Line.Line}
use Rattle.aeth_scheduling.specs.declared.schedule.Parts.{Parts}

-- The schedule of these parts, whose sessions are among these lines.
abbrev pub schedule_with : List (List Line) → Parts → ScheduleData
schedule_with all parts = record {
  loaded = parts.loaded.items;
  events = map (λ one. one.event) parts.timed;
  cycles = map (λ one. one.cycle) parts.timed;
  session_starts = session_starts_at all parts.session_starts.items;
  windows = parts.windows.items;
  rooms = parts.rooms.items;
}
