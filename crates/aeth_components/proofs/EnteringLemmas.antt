-- What rows that enter the tables of routers leave as it was, and what they change.
use Rattle.std.proofs.Common.{ℕ, zero, suc, ◌≡◌, refl, ap, List, [], ◌∷◌, map, Some}
use Rattle.aeth_router.specs.TableRouter.{TableRouterState}
use Rattle.aeth_router.specs.declared.part.Part.{Part}
use Rattle.aeth_router.specs.declared.part.Part.TheVariants.{Interface, Router, Stage, TableRouter}
use Rattle.aeth_router.specs.declared.router_row.RouterRow.{RouterRow}
use Rattle.aeth_router.proofs.RowLemmas.{with_table-kept}
use Rattle.aeth_components.specs.{Components.ComponentsState, Components.IsComponents}
use Rattle.aeth_components.specs.{Entering.entered, Entering.with_rows, Wirings.RouterWiring}
use Rattle.aeth_components.specs.{Wirings.wiring_of, Injecting.entries_of, Passing.way_of}
use Rattle.aeth_components.specs.{View.queue_in, View.queue_of}
use Rattle.aeth_components.proofs.{CycleLemmas.IsComponents-wired_for, WiringLemmas.views-map}

-- Rows change no wire of a router.
wiring-entered : (rows : List RouterRow) (part : Part)
    → wiring_of (entered rows part) ≡ wiring_of part
wiring-entered rows (Interface ni) = refl
wiring-entered rows (Router router) = refl
wiring-entered rows (TableRouter router) =
    ap (λ (router : TableRouterState). RouterWiring router.incoming router.outgoing)
    (with_table-kept rows router)
wiring-entered rows (Stage stage) = refl

way-entered : (rows : List RouterRow) (part : Part) → way_of (entered rows part) ≡ way_of part
way-entered rows (Interface ni) = refl
way-entered rows (Router router) = refl
way-entered rows (TableRouter router) = refl
way-entered rows (Stage stage) = refl

entries-entered : (rows : List RouterRow) (part : Part)
    → entries_of (entered rows part) ≡ entries_of part
entries-entered rows (Interface ni) = refl
entries-entered rows (Router router) = refl
entries-entered rows (TableRouter router) = refl
entries-entered rows (Stage stage) = refl

-- So the wirings stay, how flits are passed on alike in every cycle, and the slot tables of the
-- interfaces.
pub wirings-entered : (rows : List RouterRow) (parts : List Part)
    → map wiring_of (with_rows rows parts) ≡ map wiring_of parts
wirings-entered rows = views-map wiring_of (entered rows) (wiring-entered rows)

pub ways-entered : (rows : List RouterRow) (parts : List Part)
    → map way_of (with_rows rows parts) ≡ map way_of parts
ways-entered rows = views-map way_of (entered rows) (way-entered rows)

pub tables-entered : (rows : List RouterRow) (parts : List Part)
    → map entries_of (with_rows rows parts) ≡ map entries_of parts
tables-entered rows = views-map entries_of (entered rows) (entries-entered rows)

-- So does each queue.
queue_in-entered : (rows : List RouterRow) (part : Part) (queue : ℕ)
    → queue_in queue (Some (entered rows part)) ≡ queue_in queue (Some part)
queue_in-entered rows (Interface ni) queue = refl
queue_in-entered rows (Router router) queue = refl
queue_in-entered rows (TableRouter router) queue = refl
queue_in-entered rows (Stage stage) queue = refl

pub queue_of-entered : (rows : List RouterRow) (parts : List Part) (number queue : ℕ)
    → queue_of (with_rows rows parts) number queue ≡ queue_of parts number queue
queue_of-entered rows [] number queue = refl
queue_of-entered rows (part ∷ parts) zero queue = queue_in-entered rows part queue
queue_of-entered rows (part ∷ parts) (suc number) queue = queue_of-entered rows parts number queue

-- What holds of components still holds once rows have entered.
pub IsComponents-entered : (rows : List RouterRow) (all : ComponentsState) → IsComponents all
    → IsComponents (record all { parts = with_rows rows all.parts })
IsComponents-entered rows all =
    IsComponents-wired_for (with_rows rows all.parts) all (wirings-entered rows all.parts)
