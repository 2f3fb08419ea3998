use Rattle.std.proofs.Common.{All, take}
use Rattle.aeth_router.specs.{Rows.IsRowFor, TableRouter.new_table_router}
use Rattle.aeth_hardware_tests.proofs.pair.do_fit.Given as goal

-- Each row so far is one that a router can have.
abbrev pub invariant-loop-row : goal.invariant-loop-row
invariant-loop-row l =
    All (λ row. IsRowFor (new_table_router row.router l.chip) row) (take l.row-index l.rows)
