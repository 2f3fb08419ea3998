-- Which rows of router tables are in force in a cycle of a run.
--
--   use_from, use_in_force      the use case in force, from one on, and over a list of switches
--   rows_in_force      its rows
-- Tables in routers: this project's own.
use Rattle.std.proofs.Common.{ℕ, nat_lt, List, [], ◌∷◌, if◌then◌else◌}
use Rattle.aeth_group.specs.Members.{groups_of}
use Rattle.aeth_trace.specs.{Spans.SpanData, declared.switches.SwitchRow.SwitchRow}
use Rattle.aeth_report.specs.Sessions.{close_by}
use Rattle.aeth_accepted.specs.Inputs.{Inputs, run_of}
use Rattle.aeth_rtable.specs.Rows.{router_rows}
use Rattle.aeth_router.specs.declared.router_row.RouterRow.{RouterRow}

-- The use case in force in cycle t, where use case u is so at first. It is until what the first row
-- closes is finished; from that cycle on it is the one that this row enters, or that a later one does.
abbrev pub use_from : SpanData → ℕ → ℕ → List SwitchRow → ℕ
use_from spans t u [] = u
use_from spans t u (row ∷ rows) =
    if nat_lt t (close_by spans (record { leaves = u; row = row })).fin then u
    else use_from spans t row.to.0 rows

-- The use case in force in a cycle: what is loaded first is so from the beginning on.
abbrev pub use_in_force : SpanData → ℕ → List SwitchRow → ℕ
use_in_force spans t [] = 0
use_in_force spans t (first ∷ rows) = use_from spans t first.to.0 rows

-- The rows of the use case in force.
abbrev pub rows_in_force : Inputs → ℕ → List RouterRow
rows_in_force inputs t = router_rows inputs.chip (groups_of inputs.app) inputs.plan
    (use_in_force (run_of inputs).spans t inputs.switches)
