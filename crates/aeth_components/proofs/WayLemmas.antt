-- What components pass on of flits in every cycle alike.
use Rattle.std.proofs.Common.{ℕ, ◌≡◌, refl, true, false, List, Option, Some, None, map, slice_get}
use Rattle.aeth_base.proofs.Lists.{map-at}
use Rattle.aeth_clocked.specs.{Wires.flit_on, declared.flit.Flit.Flit}
use Rattle.aeth_router.proofs.PassingLemmas.{passed-empty, passed-output}
use Rattle.aeth_router.specs.Part.{outputs_of}
use Rattle.aeth_router.specs.Passing.{forwarded, has_table, passed}
use Rattle.aeth_router.specs.declared.part.Part.{Part}
use Rattle.aeth_router.specs.declared.part.Part.TheVariants.{Interface, Router, Stage, TableRouter}
use Rattle.aeth_components.specs.Passing.{forwarded_from, way_of}

-- Of no flit nothing is passed on.
pub forwarded-empty : (part : Part) (out : ℕ) → forwarded part out None ≡ None
forwarded-empty (Interface ni) out = refl
forwarded-empty (Router router) out = passed-empty (Router router) 0 out 0
forwarded-empty (TableRouter router) out = refl
forwarded-empty (Stage stage) out = passed-empty (Stage stage) 0 out 0

-- A component passes on to its outputs alone.
pub forwarded-output : (part : Part) (out : ℕ) (flit : Option Flit) → outputs_of part out ≡ false
    → forwarded part out flit ≡ None
forwarded-output (Interface ni) out flit away = refl
forwarded-output (Router router) out flit away = passed-output (Router router) 0 out 0 flit away
forwarded-output (TableRouter router) out flit away = refl
forwarded-output (Stage stage) out flit away = passed-output (Stage stage) 0 out 0 flit away

-- A component with a table passes nothing on alike in every cycle.
pub forwarded-by-table : (part : Part) (out : ℕ) (flit : Option Flit) → has_table part ≡ true
    → forwarded part out flit ≡ None
forwarded-by-table (Interface ni) out flit is = absurd (cc is)
forwarded-by-table (Router router) out flit is = absurd (cc is)
forwarded-by-table (TableRouter router) out flit is = refl
forwarded-by-table (Stage stage) out flit is = absurd (cc is)

-- One with no table passes on in a cycle what it passes on in every one.
pub passed-alike : (part : Part) (cycle out wire : ℕ) (flit : Option Flit)
    → has_table part ≡ false → passed part cycle out wire flit ≡ forwarded part out flit
passed-alike (Interface ni) cycle out wire flit none = refl
passed-alike (Router router) cycle out wire flit none = refl
passed-alike (TableRouter router) cycle out wire flit none = absurd (cc none)
passed-alike (Stage stage) cycle out wire flit none = refl

-- What goes from a wire to an output is what the component at its end passes on.
pub forwarded-at : (ends : List ℕ) (parts : List Part) (wires : List (Option Flit))
    (i wire out : ℕ) (part : Part) → slice_get parts i ≡ Some part → slice_get ends wire ≡ Some i
    → forwarded_from ends (map way_of parts) wires out wire ≡ forwarded part out (flit_on wires wire)
forwarded-at ends parts wires i wire out part at ends_at =
    rw (ends_at, map-at way_of parts i part at) refl
