-- What a run does, made from the lines of all use cases.
--
--   IsSetting, AreRows      the groups, the spans, and the lines of all use cases; rows of switches
--   changed_rows      the rows of the channels that a switch doesn't keep
--   events_over, timed_over, loaded_over      the events of a switch, and of all; the first writes
--   IsTask      what sessions are made from
-- This project's own.
use Rattle.std.proofs.Common.{◌≡◌, ◌≤◌, ◌<◌, ℕ, All, List, [], ◌∷◌, flat_map, length, map}
use Rattle.std.specs.List.{range_with_len, Sorted.IsNonDecreasingBy}
use Rattle.aeth_base.specs.Limits.{max_cycles, max_path_delay}
use Rattle.aeth_app.specs.Limits.{max_connections}
use Rattle.aeth_group.specs.Members.{GroupsData}
use Rattle.aeth_ni.specs.{Program.program_of, declared.row.ChannelRow.ChannelRow}
use Rattle.aeth_trace.specs.{Limits.max_rows, Spans.SpanData, Spans.span_of}
use Rattle.aeth_trace.specs.{declared.switches.SwitchRow.SwitchRow, declared.words.WordRow.WordRow}
use Rattle.aeth_report.specs.Sessions.{Switch, close_by}
use Rattle.aeth_components.specs.declared.event.Event.{Event}
use Rattle.aeth_schedule.specs.{Lines.changed_lines, Lines.lines_at, Switching.changes}
use Rattle.aeth_schedule.specs.{Switching.later_switches, Timed.events_with, Timed.within}
use Rattle.aeth_schedule.specs.{Values.values_of, declared.lines.Line.Line}
use Rattle.aeth_schedule.specs.{declared.timed.Timed.Timed}

-- The rows of those of a use case which a switch doesn't keep.
abbrev pub changed_rows : GroupsData → ℕ → ℕ → List Line → List ChannelRow
changed_rows groups u v lines =
    map (λ line. line.row) (changed_lines groups u v lines)

module _ (groups : GroupsData) (spans : SpanData) (all : List (List Line)) where
  -- There are lines and spans for each use case.
  pub record IsSetting : Type 0 where
    pub spans_are : spans.uses ≡ length groups.uses
    pub lines_are : length all ≡ length groups.uses

  -- The events of a switch.
  abbrev pub events_over : Switch → List Timed
  events_over switch =
      events_with (close_by spans switch)
      (changed_rows groups switch.leaves switch.row.to.0 (lines_at all switch.leaves))
      (changed_rows groups switch.leaves switch.row.to.0 (lines_at all switch.row.to.0))

  -- Those of all switches, below a number of cycles.
  abbrev pub timed_over : List SwitchRow → ℕ → List Timed
  timed_over rows cycles = within cycles (flat_map events_over (later_switches rows))

-- The writes that load the use case of the first row.
abbrev pub loaded_over : List (List Line) → List SwitchRow → List Event
loaded_over all [] = []
loaded_over all (first ∷ rows) =
    changes (program_of [] (map (λ line. line.row) (lines_at all first.to.0)))

-- Rows of switches between so many use cases.
pub record AreRows (uses : ℕ) (rows : List SwitchRow) : Type 0 where
  pub known : All (λ row. row.to.0 < uses) rows
  pub cycles : All (λ row. row.cycle ≤ max_cycles) rows
  pub drains : All (λ row. row.drain ≤ max_cycles) rows

-- What sessions are made from: a setting whose switches have short lags, the words of a file, and the
-- place of the first word of each connection.
pub record IsTask (groups : GroupsData) (spans : SpanData) (all : List (List Line))
    (words : List WordRow) (starts : List ℕ) (cycles : ℕ) : Type 0 where
  pub setting : IsSetting groups spans all
  pub lags : (u v : ℕ) → u < length groups.uses → v < length groups.uses
      → (span_of spans u v).0 ≤ max_path_delay
  pub few : length words ≤ max_rows
  pub order : IsNonDecreasingBy (λ row. row.cycle) words
  pub connections : length starts ≤ max_connections
  pub starts_are : starts ≡ map (λ c. length (values_of words c)) (range_with_len 0 (length starts))
  pub known : All (All (λ line. line.row.channel.conn.0 < length starts)) all
  pub short : cycles ≤ max_cycles
