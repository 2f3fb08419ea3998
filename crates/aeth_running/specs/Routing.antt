-- By what the routers of a network send flits on: by headers, or by tables.
--
--   Entering, Routing      rows that enter tables in a cycle, and by what routers send on
--   kind_of, first_rows, later_rows      the routers of a network, and the rows of their tables
--   enterings_in, entered_with, entered_first      what enters in a cycle, and before the first one
--   rows_before, rows_at      the rows in force before a cycle, and in it
--   AreRowsOn      rows that routers of a chip can have
--   AreTablesFor, IsRoutingFor      tables that have the sessions of accepted inputs
-- Tables in routers: this project's own.
use Rattle.std.proofs.Common.{◌≡◌, ◌<◌, ◌+◌, ◌==◌, ℕ, All, Contains, List, [], filter, fold, nat_lt}
use Rattle.std.specs.List.Sorted.{IsNonDecreasingBy}
use Rattle.aeth_chip.specs.Chip.{ChipData}
use Rattle.aeth_router.specs.{Rows.AreRowsFor, TableRouter.new_table_router}
use Rattle.aeth_router.specs.{declared.part.Part.Part, declared.router_row.RouterRow.RouterRow}
use Rattle.aeth_report.specs.Sessions.{Switch}
use Rattle.aeth_components.specs.Entering.{with_rows}
use Rattle.aeth_components.specs.declared.making.RouterKind.{RouterKind}
use Rattle.aeth_components.specs.declared.making.RouterKind.TheVariants.{ByHeader, ByTable}
use Rattle.aeth_invariant.specs.Tables.{AreEntries}
use Rattle.aeth_accepted.specs.Inputs.{Inputs, run_of}
use Rattle.aeth_routed_sessions.specs.RoutedSessions.{routed_sessions_of}
use Rattle.aeth_schedule.specs.Switching.{later_switches}
use Rattle.aeth_rtable.specs.Sending.{from_rows}
use Rattle.aeth_running.specs.Idle.{FallsOn}

-- In a cycle the tables of all routers become these rows.
pub record Entering : Type 0 where
  pub cycle : ℕ
  pub rows : List RouterRow

-- Routers read headers, or they look tables up, which have these rows first, and later ones.
pub data Routing : Type 0 where
  ByHeaders : Routing
  ByTables : (first : List RouterRow) (later : List Entering) → Routing

-- Of which kind routers are.
abbrev pub kind_of : Routing → RouterKind
kind_of ByHeaders = ByHeader
kind_of (ByTables first later) = ByTable

-- The rows of their tables at first, and those that enter later. Where routers read headers there are
-- none.
abbrev pub first_rows : Routing → List RouterRow
first_rows ByHeaders = []
first_rows (ByTables first later) = first

abbrev pub later_rows : Routing → List Entering
later_rows ByHeaders = []
later_rows (ByTables first later) = later

-- Those that enter in a cycle.
abbrev pub enterings_in : Routing → ℕ → List Entering
enterings_in routing t = filter (λ entering. entering.cycle == t) (later_rows routing)

-- The components once they have entered.
abbrev pub entered_with : List Part → Entering → List Part
entered_with parts entering = with_rows entering.rows parts

-- And once the first rows have.
abbrev pub entered_first : Routing → List Part → List Part
entered_first ByHeaders parts = parts
entered_first (ByTables first later) parts = with_rows first parts

-- The rows in force before a cycle: those that entered last. And those in force in it.
abbrev pub rows_before : Routing → ℕ → List RouterRow
rows_before routing t = fold (λ rows entering. entering.rows) (first_rows routing)
    (filter (λ entering. nat_lt entering.cycle t) (later_rows routing))

abbrev pub rows_at : Routing → ℕ → List RouterRow
rows_at routing t = rows_before routing (t + 1)

-- Rows are in range of the tables of a chip's routers.
abbrev pub AreRowsOn : ChipData → List RouterRow → Type 0
AreRowsOn chip rows = (r : ℕ) → AreRowsFor rows (new_table_router (record { 0 = r }) chip)

module _ (inputs : Inputs) (routing : Routing) where
  -- The cycle in which rows enter is one in which a switch does something.
  pub record IsSwitched (entering : Entering) : Type 0 where
    pub switch : Switch
    pub is : Contains (later_switches inputs.switches) switch
    pub falls : FallsOn (run_of inputs).spans switch entering.cycle

  -- Rows are in range, later ones come in the order of cycles and with switches, and in each cycle those
  -- in force are the entries of just the sessions that are in the tables.
  pub record AreTablesFor : Type 0 where
    pub first : AreRowsOn inputs.chip (first_rows routing)
    pub later : All (λ entering. AreRowsOn inputs.chip entering.rows) (later_rows routing)
    pub order : IsNonDecreasingBy (λ entering. entering.cycle) (later_rows routing)
    pub switched : All IsSwitched (later_rows routing)
    pub entries : (t : ℕ) → t < inputs.cycles
        → AreEntries (routed_sessions_of inputs) t (from_rows inputs.chip (rows_at routing t) t)

  -- Where routers look tables up these are such tables.
  abbrev pub IsRoutingFor : Type 0
  IsRoutingFor = kind_of routing ≡ ByTable → AreTablesFor
