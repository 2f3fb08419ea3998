-- From which wire the rows of router tables send each wire on.
--
--   from_at, from_rows      from which wire rows send a wire on in a cycle
-- Tables in routers: this project's own.
use Rattle.std.proofs.Common.{ℕ, ◌%◌, List, Option, None, option_map}
use Rattle.aeth_chip.specs.Chip.{ChipData}
use Rattle.aeth_routed_sessions.specs.Wiring.{start_of}
use Rattle.aeth_invariant.specs.RoutedSessions.{AtInterface, AtRouter, AtStage, WireEnd}
use Rattle.aeth_report.specs.Routes.{port_of}
use Rattle.aeth_router.specs.{Router.last_wire, Rows.link_in}
use Rattle.aeth_router.specs.{declared.router_row.RouterRow.RouterRow}

module _ (chip : ChipData) where
  -- From which wire a wire is sent on in cycle t that starts here: the last wire of the link that rows
  -- have for the wire's port in the cycle's slot.
  abbrev pub from_at : List RouterRow → ℕ → ℕ → WireEnd → Option ℕ
  from_at rows t l (AtRouter r) =
      option_map (λ link. last_wire chip.links link.0) (link_in rows (record { 0 = r })
      (port_of chip.links (record { 0 = l })) (t % chip.slots))
  from_at rows t l (AtInterface n) = None
  from_at rows t l (AtStage m) = None

  abbrev pub from_rows : List RouterRow → ℕ → ℕ → Option ℕ
  from_rows rows t l = from_at rows t l (start_of chip.links l)
