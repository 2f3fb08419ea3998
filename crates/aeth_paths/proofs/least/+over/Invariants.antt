use Rattle.std.proofs.Common.{◌≡◌, ◌-◌, ◌*◌, ◌<◌, ℕ, Some, length, slice_get}
use Rattle.aeth_base.specs.{Limits.max_path_links, declared.ids.LinkId.LinkId}
use Rattle.aeth_chip.specs.Limits.{max_links, max_routers}
use Rattle.aeth_paths.specs.Least.{AreLeast, AreWithin, OverCosts, field_to}
use Rattle.aeth_paths.specs.Walk.{costs_of}
use Rattle.aeth_paths.proofs.least.+over.Given as goal

-- One link fewer may follow.
abbrev pub decreases-over : goal.decreases-over
decreases-over l = l.left

-- No list that goes over a link so far costs less, and no entry so far is too high.
abbrev pub invariant-loop-i : goal.invariant-loop-i
invariant-loop-i l = record {
  links : length l.costs ≡ max_links;
  costs : AreWithin (costs_of l.task) l.costs;
  size : length l.least ≡ max_path_links * max_routers;
  least : AreLeast (field_to l.task l.target) l.least;
  lowest : (k : ℕ) (link : LinkId) → k < l.i → slice_get l.links k ≡ Some link
      → OverCosts (field_to l.task l.target) link (l.left - 1) l.lowest;
}
