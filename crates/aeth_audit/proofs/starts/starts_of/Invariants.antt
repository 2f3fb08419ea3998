use Rattle.std.proofs.Common.{◌≡◌}
use Rattle.aeth_audit.proofs.StartLemmas.{AreFirstStarts}
use Rattle.aeth_audit.proofs.starts.starts_of.Given as goal

-- The cycles of the rows so far have their numbers.
abbrev pub invariant-loop-row : goal.invariant-loop-row
invariant-loop-row l = record {
  number : l.number ≡ l.row-index;
  starts : AreFirstStarts l.rows l.row-index l.starts.items;
}
