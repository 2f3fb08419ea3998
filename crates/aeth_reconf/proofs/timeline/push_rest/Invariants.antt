use Rattle.std.proofs.Common.{◌≡◌, ◌<◌, ◌++◌, drop, length}
use Rattle.aeth_reconf.specs.Timeline.{rest_of}
use Rattle.aeth_reconf.proofs.timeline.push_rest.Given as goal

-- What the rows that are left bring is still to come.
abbrev pub invariant-loop-row : goal.invariant-loop-row
invariant-loop-row l = record {
  known : l.from.0 < length l.one.groups.now.uses;
  comes : l.sessions.items
      ++ rest_of l.one.groups.now l.one.spans.now l.one.conn.0 l.current l.from.0 (drop l.row-index l.rows)
      ≡ l.fn.sessions.items ++ rest_of l.one.groups.now l.one.spans.now l.one.conn.0 l.fn.current l.fn.first.0 l.rows;
}
