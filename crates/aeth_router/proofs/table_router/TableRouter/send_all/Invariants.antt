use Rattle.aeth_router.proofs.SingleLemmas.{HaveSent, port_sends}
use Rattle.aeth_router.proofs.table_router.TableRouter.send_all.Given as goal

-- The ports so far have sent, and no other.
abbrev pub invariant-loop-port : goal.invariant-loop-port
invariant-loop-port l =
    HaveSent l.self.outgoing (port_sends l.self l.slot l.wire.0 l.sent) l.port l.fn.onward l.onward
