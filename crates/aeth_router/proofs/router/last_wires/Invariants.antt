use Rattle.std.proofs.Common.{◌≡◌, map, take}
use Rattle.aeth_router.specs.Router.{last_wire, numbers_of}
use Rattle.aeth_router.proofs.router.last_wires.Given as goal

-- The last wires of the links so far.
abbrev pub invariant-loop-link : goal.invariant-loop-link
invariant-loop-link l =
    numbers_of l.wires.items
    ≡ map (last_wire l.chip.links) (take l.link-index (numbers_of l.links))
