use Rattle.std.proofs.Common.{◌≡◌, ◌≤◌, ◌*◌, take}
use Rattle.aeth_tables.specs.Changes.{made, most_writes, writes_in}
use Rattle.aeth_tables.proofs.switching.writes_in.Given as goal

-- The writes of the changes so far.
abbrev pub invariant-loop-change : goal.invariant-loop-change
invariant-loop-change l = record {
  writes : l.writes ≡ writes_in (made l.groups l.u.0 l.v.0 (take l.change-index l.changes));
  most : l.writes ≤ most_writes * l.change-index;
}
