-- What a run does, cycle by cycle.
-- This project's own.
use Rattle.std.proofs.Common.{ℕ, List, map}
use Rattle.aeth_components.specs.declared.event.Event.{Event}
use Rattle.aeth_accepted.specs.Inputs.{Inputs, run_of}
use Rattle.aeth_schedule.specs.{SessionStarts.session_starts_of, Rooms.rooms_of}
use Rattle.aeth_schedule.specs.{Switching.loaded_of, Switching.timed_of, Windows.windows_over}
use Rattle.aeth_schedule.specs.{declared.session_start.SessionStart.SessionStart}
use Rattle.aeth_schedule.specs.{declared.windows.Window.Window}

-- What is written before the first cycle, the events and the cycle of each, the sessions in the order
-- in which they go, the windows of all switches, and the rooms of all receive queues.
pub record ScheduleData : Type 0 where
  pub loaded : List Event
  pub events : List Event
  pub cycles : List ℕ
  pub session_starts : List SessionStart
  pub windows : List Window
  pub rooms : List ℕ

-- The schedule of a run.
abbrev pub schedule_of : Inputs → ScheduleData
schedule_of inputs = record {
  loaded = loaded_of inputs;
  events = map (λ one. one.event) (timed_of inputs);
  cycles = map (λ one. one.cycle) (timed_of inputs);
  session_starts = session_starts_of inputs;
  windows = windows_over (run_of inputs).spans inputs.switches;
  rooms = rooms_of inputs;
}
