use Rattle.std.proofs.Common.{◌≡◌, ◌≤◌, drop, length}
use Rattle.aeth_chip.specs.{Nodes.same_node, declared.node.Node.Node, PathTests.follows}
use Rattle.aeth_check.specs.Routes.{HasPlaces}
use Rattle.aeth_check.proofs.routes.follows.Given as goal

-- The links behind lead from where the next one begins, and the set has the routers that they come
-- to.
abbrev pub invariant-links : goal.invariant-links
invariant-links l = record {
  within : l.left ≤ length l.path;
  places : HasPlaces l.chip.links (drop l.left l.path) l.routers;
  goes : (at : Node) → follows l.chip.links l.fn.b at (drop l.left l.path) ≡ same_node l.next at;
}

abbrev pub decreases-links : goal.decreases-links
decreases-links l = l.left
