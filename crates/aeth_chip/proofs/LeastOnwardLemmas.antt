-- Laws of the least number of links from a router as a function: it is the least number that the
-- relation `IsOnwardDistance` tells, and the only one.
use Rattle.std.proofs.Common.{◌≡◌, ◌∙◌, ◌+◌, ℕ, List, [], ◌∷◌, Option, length, not, sym, ap, arith}
use Rattle.std.proofs.lemmas.Bool.{and_from, and_parts, false≢true}
use Rattle.std.specs.Bool.{Decides}
use Rattle.aeth_base.specs.Extremes.{least_below}
use Rattle.aeth_base.specs.declared.ids.{LinkId.LinkId, NiId.NiId, RouterId.RouterId}
use Rattle.aeth_chip.specs.{declared.node.Link.Link, declared.node.Node.TheVariants.Router}
use Rattle.aeth_chip.specs.{declared.node.Node.TheVariants.Ni, Chip.ChipData, Chip.IsChip}
use Rattle.aeth_chip.specs.{Distances.AreBelow, LeastDistance.below, LeastOnward.has_onward}
use Rattle.aeth_chip.specs.{LeastOnward.is_onward, LeastOnward.least_onward, PathTests.is_fresh}
use Rattle.aeth_chip.specs.{Paths.IsOnward, Paths.IsOnwardDistance}
use Rattle.aeth_chip.proofs.JoinedLaws.{joins-length, joins-none}
use Rattle.aeth_chip.proofs.LeastDistanceLemmas.{IsLeast-unique, joined-within, least-is}
use Rattle.aeth_chip.proofs.LinkLemmas.{node_below}
use Rattle.aeth_chip.proofs.PathTestLemmas.{comes-is, follows-true, fresh-Decides, true-follows}
use Rattle.aeth_chip.proofs.RouterLemmas.{length-distinct_routers}

-- The test decides whether a list of links is a path from a router.
pub is_onward-Decides : (links : List Link) (r : RouterId) (b : NiId) (path : List LinkId)
    → Decides (is_onward links r b path) (IsOnward links r b path)
is_onward-Decides links r b [] = (
  (λ found. absurd (false≢true (and_parts (is_fresh links (Router r) []) _ found).1)),
  (λ is. absurd (false≢true (joins-none links (Router r) is.routers (Ni b) is.joins))),
)
is_onward-Decides links r b (l ∷ path) = (
  (λ found.
      let (fresh, passes) = and_parts (is_fresh links (Router r) (l ∷ path)) _ found in
      let is = follows-true links b (Router r) l path passes in
      record {
        routers = is.routers;
        joins = is.joins;
        distinct = (
          (fresh-Decides is.routers r).0
              (ap not (sym (comes-is links (Router r) is.routers b (l ∷ path) is.joins r)) ∙ fresh),
          is.distinct,
        );
      }),
  (λ is. and_from _ _
      (ap not (comes-is links (Router r) is.routers b (l ∷ path) is.joins r)
      ∙ (fresh-Decides is.routers r).1 is.distinct.0)
      (true-follows links b (Router r) is.routers (l ∷ path) is.joins is.distinct.1)),
)

-- The least number of links by the function is that of the relation.
onward-least : (links : List Link) (count : ℕ) → AreBelow links count → (r : RouterId) (b : NiId)
    → IsOnwardDistance links r b
    (below (count + 2) (least_below (has_onward links r b) (count + 2)))
unfolding has_onward
onward-least links count are_below r b =
    least-is links (IsOnward links r b) (is_onward links r b) (is_onward-Decides links r b)
    (λ path is. joined-within links (Router r) path is.joins.joined) (count + 2)
    (λ path is.
    let one_more = joins-length links (Router r) is.routers (Ni b) path is.joins in
    let most = length-distinct_routers links count are_below (Router r) is.routers (Ni b) path
    is.joins is.distinct.1 in
    omega arith)

-- For each chip, `least_onward` gives the least number of links.
pub least_onward_is_distance : (chip : ChipData) → IsChip chip → (r : RouterId) (b : NiId)
    → IsOnwardDistance chip.links r b (least_onward chip r b)
unfolding least_onward
least_onward_is_distance chip is_chip r b =
    onward-least chip.links (length chip.routers)
    (λ l link is. node_below chip.routers chip.nis link.to (is_chip.links l link is).to) r b

-- A least number of links is what `least_onward` gives.
pub distance_is_least_onward : (chip : ChipData) → IsChip chip → (r : RouterId) (b : NiId)
    (least : Option ℕ) → IsOnwardDistance chip.links r b least → least ≡ least_onward chip r b
distance_is_least_onward chip is_chip r b least distance =
    IsLeast-unique (IsOnward chip.links r b) least (least_onward chip r b) distance
    (least_onward_is_distance chip is_chip r b)
