use Rattle.std.proofs.Common.{◌≡◌, ◌≤◌, ◌*◌, take}
use Rattle.aeth_tables.specs.Changes.{lag_in, most_writes, writes_in}
use Rattle.aeth_tables.proofs.changes.changes_with.Given as goal

-- What the changes so far add together.
abbrev pub invariant-loop-change : goal.invariant-loop-change
invariant-loop-change l = record {
  lag : l.lag ≡ lag_in (take l.change-index l.change-items);
  writes : l.writes ≡ writes_in (take l.change-index l.change-items);
  most : l.writes ≤ most_writes * l.change-index;
}
