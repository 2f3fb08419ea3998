use Rattle.std.proofs.Common.{None, take}
use Rattle.aeth_clocked.specs.Wires.{Drives}
use Rattle.aeth_router.specs.Router.{is_among, numbers_of}
use Rattle.aeth_router.proofs.traffic.clear.Given as goal

-- The links so far are empty, and no other has changed.
abbrev pub invariant-loop-link : goal.invariant-loop-link
invariant-loop-link l =
    Drives (is_among (take l.link-index (numbers_of l.outgoing))) (λ _. None) l.fn.wires l.wires
