-- Rows enter the tables of the routers among components.
--
--   entered, with_rows      a component, and all of them, once rows have entered
--   TakesRows      those of the rows that are a router's are in range
--
-- Tables in routers: this project's own.
use Rattle.std.proofs.Common.{List, map}
use Rattle.aeth_router.specs.Rows.{AreRowsFor, with_table}
use Rattle.aeth_router.specs.declared.part.Part.{Part}
use Rattle.aeth_router.specs.declared.part.Part.TheVariants.{Interface, Router, Stage, TableRouter}
use Rattle.aeth_router.specs.declared.router_row.RouterRow.{RouterRow}

-- A component once rows have entered: a router with a table has the entries of just those that are its
-- own, and any other is as it was.
abbrev pub entered : List RouterRow → Part → Part
entered rows (Interface ni) = Interface ni
entered rows (Router router) = Router router
entered rows (TableRouter router) = TableRouter (with_table rows router)
entered rows (Stage stage) = Stage stage

-- The components once rows have entered.
abbrev pub with_rows : List RouterRow → List Part → List Part
with_rows rows parts = map (entered rows) parts

-- Where a component is a router with a table, those of the rows that are its own are in range.
abbrev pub TakesRows : List RouterRow → Part → Type 0
TakesRows rows (Interface ni) = Unit
TakesRows rows (Router router) = Unit
TakesRows rows (TableRouter router) = AreRowsFor rows router
TakesRows rows (Stage stage) = Unit
