-- By what the routers of a network send on, made from the rows of each use case.
--
--   rows_in      the rows of a use case, out of those of all
--   entering_of, tables_as      uses that are entered, with their rows
--   routing_in      by headers where there are no tables
--   entered_by      the use case that a switch enters, once what it closes is finished
--   entered_in, later_uses      those that rows enter, by the windows of their switches
--   first_use, routing_by      the tables of a list of switches
--   entered_use      components once a use case is entered
-- Tables in routers: this project's own.
use Rattle.std.proofs.Common.{ℕ, List, [], ◌∷◌, Option, None, Some, map}
use Rattle.std.specs.List.{slice_index_or}
use Rattle.aeth_router.specs.declared.{part.Part.Part, router_row.RouterRow.RouterRow}
use Rattle.aeth_trace.specs.{Spans.SpanData, declared.switches.SwitchRow.SwitchRow}
use Rattle.aeth_report.specs.Sessions.{Switch, close_by}
use Rattle.aeth_components.specs.Entering.{with_rows}
use Rattle.aeth_schedule.specs.{Switching.later_switches, declared.windows.Window.Window}
use Rattle.aeth_running.specs.Routing.{ByHeaders, ByTables, Entering, Routing}
use Rattle.aeth_network.specs.declared.tables.EnteredUse.{EnteredUse}

-- The rows of a use case, out of those of all.
abbrev pub rows_in : List (List RouterRow) → ℕ → List RouterRow
rows_in tables u = slice_index_or tables u []

-- A use case that is entered in a cycle, with its rows.
abbrev pub entering_of : (ℕ → List RouterRow) → EnteredUse → Entering
entering_of rows_of one = record { cycle = one.cycle; rows = rows_of one.entered.0 }

-- First the tables have the rows of one use case, and then those of the ones that are entered.
abbrev pub tables_as : (ℕ → List RouterRow) → ℕ → List EnteredUse → Routing
tables_as rows_of first later = ByTables (rows_of first) (map (entering_of rows_of) later)

-- Where there are no tables routers read headers.
abbrev pub routing_in : Option Routing → Routing
routing_in None = ByHeaders
routing_in (Some routing) = routing

-- A switch enters its use case once all has landed that it closes.
abbrev pub entered_by : SpanData → Switch → EnteredUse
entered_by spans switch = record {
  cycle = (close_by spans switch).fin;
  entered = switch.row.to;
}

-- The use cases that rows enter, of which each switch has a window: from when it writes on.
abbrev pub entered_in : List Window → List SwitchRow → List EnteredUse
entered_in (window ∷ windows) (row ∷ rows) =
    record { cycle = window.fin; entered = row.to } ∷ entered_in windows rows
entered_in _ _ = []

-- Those of the rows behind the first.
abbrev pub later_uses : List Window → List SwitchRow → List EnteredUse
later_uses windows [] = []
later_uses windows (first ∷ rows) = entered_in windows rows

-- The use case that the first row loads.
abbrev pub first_use : List SwitchRow → ℕ
first_use [] = 0
first_use (first ∷ rows) = first.to.0

-- The tables of a list of switches: those of the use case that is loaded first, and then of each that a
-- later row enters.
abbrev pub routing_by : SpanData → (ℕ → List RouterRow) → List SwitchRow → Routing
routing_by spans rows_of rows =
    tables_as rows_of (first_use rows) (map (entered_by spans) (later_switches rows))

-- The components once a use case is entered.
abbrev pub entered_use : (ℕ → List RouterRow) → List Part → EnteredUse → List Part
entered_use rows_of parts one = with_rows (rows_of one.entered.0) parts
