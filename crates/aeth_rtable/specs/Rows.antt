-- The rows of router tables, in the order of routers, ports and slots.
--
--   rows_with      the row of an entry
--   rows_of_port, rows_of_router, rows_by      those of a port, of a router, of all routers
--   router_rows      those of a use case
-- This project's own.
use Rattle.std.proofs.Common.{ℕ, List, [], ◌∷◌, Option, Some, None, flat_map, length, slice_index}
use Rattle.std.specs.List.{range_with_len}
use Rattle.aeth_base.specs.declared.ids.{LinkId.LinkId, RouterId.RouterId}
use Rattle.aeth_chip.specs.{Chip.ChipData, Nodes.sends_on, declared.node.Node.TheVariants.Router}
use Rattle.aeth_group.specs.Members.{GroupsData}
use Rattle.aeth_plan.specs.Plan.{PlanData}
use Rattle.aeth_rtable.specs.{Hops.entry_at, Hops.hops_in, declared.hops.Hop.Hop}
use Rattle.aeth_router.specs.declared.router_row.RouterRow.{RouterRow}

-- The row of an entry; none where there is no entry.
abbrev pub rows_with : RouterId → ℕ → ℕ → Option LinkId → List RouterRow
rows_with router port slot None = []
rows_with router port slot (Some from) =
    record { router = router; port = port; slot = slot; from = from } ∷ []

-- The rows of a router's port, which sends on this link, in a table of so many slots.
abbrev pub rows_of_port : List Hop → ℕ → RouterId → ℕ → ℕ → List RouterRow
rows_of_port hops slots router port link =
    flat_map (λ slot. rows_with router port slot (entry_at hops link slot)) (range_with_len 0 slots)

-- The rows of a router.
abbrev pub rows_of_router : List Hop → ChipData → RouterId → List RouterRow
rows_of_router hops chip router =
    let links = sends_on (Router router) chip.links in
    flat_map (λ port. rows_of_port hops chip.slots router port (slice_index links port))
    (range_with_len 0 (length links))

-- The rows of all routers.
abbrev pub rows_by : List Hop → ChipData → List RouterRow
rows_by hops chip = flat_map (λ r. rows_of_router hops chip (record { 0 = r }))
    (range_with_len 0 (length chip.routers))

-- The rows of a use case by a plan.
unfoldable pub router_rows : ChipData → GroupsData → PlanData → ℕ → List RouterRow
router_rows chip groups plan u = rows_by (hops_in chip groups plan u) chip
