use Rattle.std.proofs.Common.{List, ℕ, subst, ◌+◌}
use Rattle.std.proofs.lemmas.Option.{get_or_from_slice_get, slice_get_within}
use Rattle.aeth_chip.specs.{Distances.AreBelow, Distances.AreRows, Levels.HasPlace}
use Rattle.aeth_chip.specs.{Levels.HasPlaces, Nodes.IsBelow, declared.node.Link.Link}
use Rattle.aeth_chip.specs.{declared.node.Node.Node, declared.node.Node.TheVariants.Router}
use Rattle.aeth_chip.specs.{declared.node.Node.TheVariants.Ni}
use Rattle.aeth_chip.proofs.distances.Distances.over.Goals as goal

-- A node with a place is a router of the chip, or an interface.
below_place : (routers places : ℕ) (node : Node) → HasPlace routers places node
    → IsBelow routers node
below_place routers places (Router r) placed = placed
below_place routers places (Ni n) placed = tt

links_below : (links : List Link) (routers places : ℕ) → HasPlaces links routers places
    → AreBelow links routers
links_below links routers places placed l link at =
    below_place routers places link.to (placed link (
      l,
      slice_get_within links l link at,
      get_or_from_slice_get links l link link at,
    )).1

-- The ends of the links have places.
pub rows_of-requires-clause-places : goal.rows_of-requires-clause-places
rows_of-requires-clause-places c = rw c.deref.ensures.value c.requires.places

-- The rows have the least numbers of links.
pub invariant_of-result : goal.invariant_of-result
invariant_of-result c =
    let links = c.args.links.items in
    record {
      rows_are = subst (λ (ls : List Link). AreRows ls c.args.routers c.in_ok-rows.rows.items)
          c.deref.ensures.value c.in_ok-rows.ensures;
      below = links_below links c.args.routers (c.args.routers + c.args.nis) c.requires.places;
      few = c.requires.routers;
    }
