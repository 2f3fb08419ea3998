use Rattle.std.proofs.Common.{◌≡◌, ◌++◌, drop}
use Rattle.aeth_chip.specs.Nodes.{begins_at, numbers_from, sends_on}
use Rattle.aeth_router.specs.Router.{numbers_of}
use Rattle.aeth_router.proofs.router.sending.Given as goal

-- The links so far, and those that are left.
abbrev pub invariant-loop-number : goal.invariant-loop-number
invariant-loop-number l =
    numbers_of l.links.items
    ++ numbers_from l.number (begins_at l.node) (drop l.number l.chip.links)
    ≡ sends_on l.node l.chip.links
