use Rattle.std.proofs.Common.{take}
use Rattle.aeth_clocked.specs.Wires.{Drives}
use Rattle.aeth_router.specs.Router.{emitted_on, is_among, numbers_of}
use Rattle.aeth_router.specs.Traffic.{AreNamed}
use Rattle.aeth_router.proofs.traffic.emit.Given as goal

-- The flits so far are sent.
abbrev pub invariant-loop-latched : goal.invariant-loop-latched
invariant-loop-latched l =
    AreNamed l.named (take l.latched-index l.held)
    × Drives (is_among (numbers_of l.outgoing))
    (emitted_on (numbers_of l.outgoing) (take l.latched-index l.held)) l.fn.wires l.wires
