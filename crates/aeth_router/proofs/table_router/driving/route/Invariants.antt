use Rattle.std.proofs.Common.{take}
use Rattle.aeth_clocked.specs.Wires.{Drives}
use Rattle.aeth_router.specs.Router.{is_among, numbers_of}
use Rattle.aeth_router.specs.TableRouter.{entry_at, sent_from, sent_on}
use Rattle.aeth_router.proofs.table_router.driving.route.Given as goal

-- The links so far are driven, and no other.
abbrev pub invariant-loop-port : goal.invariant-loop-port
invariant-loop-port l =
    Drives (is_among (take l.port (numbers_of l.outgoing)))
    (sent_on (numbers_of l.outgoing)
    (λ port. sent_from l.held (entry_at l.entries l.slots port l.slot))) l.fn.wires l.wires
