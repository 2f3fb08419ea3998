use Rattle.std.proofs.Common.{◌≡◌, ◌++◌, take}
use Rattle.aeth_schedule.specs.Timed.{closing_at}
use Rattle.aeth_scheduling.proofs.timed.push_all_closing.Given as goal

-- Those so far.
abbrev pub invariant-loop-row : goal.invariant-loop-row
invariant-loop-row l =
    l.list ≡ l.fn.list ++ closing_at l.closing l.cycle (take l.row-index l.rows)
