use Rattle.std.proofs.Common.{◌≡◌, ◌<◌, length}
use Rattle.aeth_report.specs.Sessions.{closing_in}
use Rattle.aeth_scheduling.specs.Made.{AreRows}
use Rattle.aeth_scheduling.proofs.closing.close_over.Given as goal

-- No switch so far closes the connection, and those that are left are known.
abbrev pub invariant-rows : goal.invariant-rows
invariant-rows l = record {
  from : l.from.0 < length l.task.groups.now.uses;
  rows : AreRows (length l.task.groups.now.uses) l.rest;
  closing : closing_in l.task.groups.now l.conn.0 l.from.0 l.rest
      ≡ closing_in l.task.groups.now l.conn.0 l.fn.to.0 l.rows;
}

-- Fewer are left.
abbrev pub decreases-rows : goal.decreases-rows
decreases-rows l = length l.rest
