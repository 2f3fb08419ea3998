use Rattle.std.proofs.Common.{◌≡◌, ◌<◌, ◌+◌, drop}
use Rattle.aeth_trace.specs.Switches.{are_apart_from}
use Rattle.aeth_trace.proofs.switches.judge_later.Given as goal

-- The rows that are left are as far apart as all are.
abbrev pub invariant-loop-row : goal.invariant-loop-row
invariant-loop-row l = record {
  from : l.from.0 < l.spans.uses;
  place : l.number ≡ l.row-index + 2;
  walk : are_apart_from l.spans l.from.0 l.go l.number (drop l.row-index l.rows)
      ≡ are_apart_from l.fn.spans l.fn.first.0 0 2 l.fn.rows;
}
