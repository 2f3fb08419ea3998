-- Components whose routers look tables up.
--
--   without_table      a component without its table, if it is a router with one
--   table_in      the table of a component, where it is a router with one
--   table_from      from which wire such a router sends on a port
--   IsRoutedBy, AreRoutedBy      routers with tables send on as the routed sessions go
-- Tables in routers: this project's own.
use Rattle.std.proofs.Common.{◌≡◌, ◌<◌, ◌%◌, ◌==◌, ℕ, List, [], Option, Some, None, option_and_then}
use Rattle.std.proofs.Common.{position, slice_get}
use Rattle.aeth_router.specs.TableRouter.{TableRouterState, entry_at}
use Rattle.aeth_router.specs.declared.part.Part.{Part}
use Rattle.aeth_router.specs.declared.part.Part.TheVariants.{Interface, Router, Stage, TableRouter}
use Rattle.aeth_invariant.specs.{RoutedSessions.RoutedSessions, Tables.AreEntries}

-- A component without its table, if it is a router with one: the router that has the same wires, and holds
-- the same flits.
abbrev pub without_table : Part → Part
without_table (Interface ni) = Interface ni
without_table (Router router) = Router router
without_table (TableRouter router) = Router (record {
  incoming = router.incoming;
  outgoing = router.outgoing;
  held = router.held;
})
without_table (Stage stage) = Stage stage

-- The table of a component, where it is a router with one: all of it but the flits that it holds.
abbrev pub table_in : Part → Option TableRouterState
table_in (Interface ni) = None
table_in (Router router) = None
table_in (TableRouter router) = Some (record router { held = [] })
table_in (Stage stage) = None

-- From which wire a router sends on a port in cycle t, by the entry of its table for the cycle's slot.
abbrev pub table_from : TableRouterState → ℕ → ℕ → Option ℕ
table_from router t port = option_and_then (λ place. slice_get router.incoming place)
    (entry_at router.entries router.slots port (t % router.slots))

-- A router with a table sends on in cycle t just as the routed sessions go that are in the tables
-- then.
pub record IsRoutedBy (sessions : RoutedSessions) (t : ℕ) (router : TableRouterState) : Type 0 where
  pub some_slots : 0 < sessions.size
  pub from : ℕ → Option ℕ
  pub entries : AreEntries sessions t from
  pub own : (l port : ℕ) → position (λ other. other == l) router.outgoing ≡ Some port
      → from l ≡ table_from router t port

-- Each of the components that has a table does. Routers that read headers have none.
abbrev pub AreRoutedBy : RoutedSessions → ℕ → List Part → Type 0
AreRoutedBy sessions t parts = (i : ℕ) (router : TableRouterState)
    → slice_get parts i ≡ Some (TableRouter router) → IsRoutedBy sessions t router
