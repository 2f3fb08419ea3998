-- How great the least numbers of links of a chip are.
use Rattle.std.proofs.Common.{◌+◌, ◌<◌, ◌≤◌, ℕ, List, Option, Some, None, arith, IfSome}
use Rattle.aeth_base.specs.declared.ids.{NiId.NiId, RouterId.RouterId}
use Rattle.aeth_chip.specs.{declared.node.Link.Link, declared.node.Node.TheVariants.Router}
use Rattle.aeth_chip.specs.{declared.node.Node.TheVariants.Ni, Distances.AreBelow}
use Rattle.aeth_chip.specs.{Limits.max_routers, Paths.IsDistance, Paths.IsOnwardDistance}
use Rattle.aeth_chip.proofs.{JoinedLaws.joins-length, LeastDistanceLemmas.path-within}
use Rattle.aeth_chip.proofs.{RouterLemmas.length-distinct_onward}

-- A least number of links between interfaces is at least 2, and at most one more than there are
-- routers.
distance-within : (links : List Link) (count : ℕ) → AreBelow links count → (a b : NiId)
    (least : ℕ) → IsDistance links a b (Some least) → (2 ≤ least) × (least ≤ count + 1)
distance-within links count below a b least distance =
    let (some, few) = path-within links count below a b distance.path distance.has in
    let is = distance.length_is in
    (omega arith, omega arith)

-- One from a router is at least 1, and at most the number of routers.
onward-within : (links : List Link) (count : ℕ) → AreBelow links count → (r : RouterId)
    (b : NiId) (least : ℕ) → r.0 < count → IsOnwardDistance links r b (Some least)
    → (1 ≤ least) × (least ≤ count)
onward-within links count below r b least within distance =
    let path = distance.has in
    let is = distance.length_is in
    let one_more = joins-length links (Router r) path.routers (Ni b) distance.path path.joins in
    let few = length-distinct_onward links count below r path.routers (Ni b) distance.path
    path.joins path.distinct within in
    (omega arith, omega arith)

-- The same where the number may be missing.
pub some_distance-within : (links : List Link) (count : ℕ) → AreBelow links count
    → count ≤ max_routers → (a b : NiId) (least : Option ℕ) → IsDistance links a b least
    → IfSome least (λ n. (2 ≤ n) × (n ≤ max_routers + 1))
some_distance-within links count below few a b None distance = tt
some_distance-within links count below few a b (Some least) distance =
    let within = distance-within links count below a b least distance in
    let most = within.1 in
    (within.0, omega arith)

pub some_onward-within : (links : List Link) (count : ℕ) → AreBelow links count
    → count ≤ max_routers → (r : RouterId) (b : NiId) (least : Option ℕ) → r.0 < count
    → IsOnwardDistance links r b least → IfSome least (λ n. (1 ≤ n) × (n ≤ max_routers))
some_onward-within links count below few r b None within distance = tt
some_onward-within links count below few r b (Some least) within distance =
    let bounds = onward-within links count below r b least within distance in
    let most = bounds.1 in
    (bounds.0, omega arith)
