use Rattle.std.proofs.Common.{◌≡◌, take}
use Rattle.aeth_router.specs.Rows.{with_table}
use Rattle.aeth_router.proofs.table_router.TableRouter.enter.Given as goal

-- The rows so far have entered.
abbrev pub invariant-loop-row : goal.invariant-loop-row
invariant-loop-row l = l.self ≡ with_table (take l.row-index l.rows) l.fn.self
