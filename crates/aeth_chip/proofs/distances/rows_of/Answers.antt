use Rattle.std.proofs.Common.{◌≡◌, ◌+◌, ℕ, List, Option, Some, length, slice_get, subst, arith, Err}
use Rattle.std.proofs.Common.{IfOk, Ok, Result}
use Rattle.std.specs.declared.{vec.Vec.Vec, alloc.Global.Global}
use Rattle.aeth_base.specs.declared.memory.NoMemory.{NoMemory}
use Rattle.aeth_chip.specs.Distances.{AreLevelRows, AreRows}
use Rattle.aeth_chip.specs.Levels.{AreLevels, AreOrigins, HasPlaces, IsOrigin}
use Rattle.aeth_chip.specs.declared.node.Link.{Link}
use Rattle.aeth_chip.proofs.{DistanceLemmas.rows_least, OriginLemmas.origin_below}
use Rattle.aeth_chip.proofs.distances.rows_of.Goals as goal

-- There is a list for each place.
pub levels_of-requires-clause-size : goal.levels_of-requires-clause-size
levels_of-requires-clause-size c = rw c.deref.ensures.value c.in_ok-origins.ensures.size

-- Each place in the lists is one.
pub levels_of-requires-clause-places : goal.levels_of-requires-clause-places
levels_of-requires-clause-places c =
    let places = c.args.routers + c.args.nis in
    let below = origin_below c.args.routers places c.args.links.now c.in_ok-origins.origins.items
    (omega arith) c.requires.places c.in_ok-origins.ensures in
    rw (c.deref.ensures.value, c.in_ok-origins.ensures.size) below

-- The rows have the least numbers of links.
least : (links : List Link) (routers nis : ℕ) (origins read : List ℕ)
    (rows : Result (Vec (Vec (Option ℕ) Global) Global) NoMemory)
    → HasPlaces links routers (routers + nis) → AreOrigins links routers (routers + nis) origins
    → read ≡ origins → IfOk rows (λ its. AreLevelRows read routers nis its.items)
    → IfOk rows (λ its. AreRows links routers its.items)
least links routers nis origins read (Ok rows) placed are same levels =
    let row = λ (b : ℕ) (row : Vec (Option ℕ) Global) (is : slice_get rows.items b ≡ Some row).
    subst (λ (n : ℕ). AreLevels (IsOrigin origins) routers (routers + b) n row.items) are.size
    (subst (λ (os : List ℕ). AreLevels (IsOrigin os) routers (routers + b) (length os)
    row.items) same (levels.each b row is)) in
    let size = levels.size in
    rows_least links routers (routers + nis) origins rows.items placed are (omega arith) row
least links routers nis origins read (Err none) placed are same levels = tt

pub returns : goal.returns
returns c =
    least c.args.links.now c.args.routers c.args.nis c.in_ok-origins.origins.items
    c.deref.result.now c.levels_of.result c.requires.places c.in_ok-origins.ensures
    c.deref.ensures.value c.levels_of.ensures
