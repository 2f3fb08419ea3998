use Rattle.std.proofs.Common.{◌≡◌}
use Rattle.aeth_hardware_tests.proofs.table_router.enter.Given as goal

-- The router has the same wires and ports.
abbrev pub invariant-loop-owner : goal.invariant-loop-owner
invariant-loop-owner l =
    (l.router.incoming ≡ l.fn.router.incoming) × (l.router.outgoing ≡ l.fn.router.outgoing)
