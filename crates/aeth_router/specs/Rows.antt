-- Rows enter the tables of routers.
--
--   is_for, IsRowFor, AreRowsFor      whether a row is one of a router, and that such a row is in range
--   with_row      a router with the entry of a row, where this is one of its own
--   without_entries, with_table      a router without entries, and with those of just these rows
--   link_in      the link that rows have for a slot of a port of a router
--
-- Tables in routers: this project's own.
use Rattle.std.proofs.Common.{◌≡◌, ◌<◌, ℕ, ◌==◌, ◌&&◌, if◌then◌else◌, Bool, true, IsTrue, Option}
use Rattle.std.proofs.Common.{Some, None, List, All, length, fold, replicate}
use Rattle.aeth_base.specs.declared.ids.{LinkId.LinkId, RouterId.RouterId}
use Rattle.aeth_router.specs.{Router.is_among, TableRouter.TableRouterState, TableRouter.with_entry}
use Rattle.aeth_router.specs.{declared.router_row.RouterRow.RouterRow}

-- Whether a row is one of the router of this number.
abbrev pub is_for : RouterId → RouterRow → Bool
is_for router row = row.router.0 == router.0

-- The router has the row's port, its table the slot, and the link enters the router.
pub record IsRowFor (router : TableRouterState) (row : RouterRow) : Type 0 where
  pub port : row.port < length router.outgoing
  pub slot : row.slot < router.slots
  pub from : IsTrue (is_among router.links row.from.0)

-- Those of the rows that are the router's are so.
abbrev pub AreRowsFor : List RouterRow → TableRouterState → Type 0
AreRowsFor rows router = All (λ row. is_for router.number row ≡ true → IsRowFor router row) rows

-- The router with the entry of a row, where this is one of its own.
abbrev pub with_row : TableRouterState → RouterRow → TableRouterState
with_row router row =
    if is_for router.number row then with_entry row.port row.slot (Some row.from) router else router

-- The router without entries.
abbrev pub without_entries : TableRouterState → TableRouterState
without_entries router = record router { entries = replicate (length router.entries) None }

-- The router with the entries of just these rows; the last counts of those of one slot of one port.
abbrev pub with_table : List RouterRow → TableRouterState → TableRouterState
with_table rows router = fold with_row (without_entries router) rows

-- Whether a row is one of a slot of a port of a router.
abbrev pub is_at : RouterId → ℕ → ℕ → RouterRow → Bool
is_at router port slot row = is_for router row && (row.port == port && row.slot == slot)

-- The link that rows have for a slot of a port of a router; the last of them counts.
abbrev pub link_in : List RouterRow → RouterId → ℕ → ℕ → Option LinkId
link_in rows router port slot =
    fold (λ found row. if is_at router port slot row then Some row.from else found) None rows
