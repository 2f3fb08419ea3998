use Rattle.std.{proofs.Common.◌≡◌, proofs.Common.◌++◌, proofs.Common.drop, specs.List.flat_map}
use Rattle.aeth_ni.specs.Program.{closing_writes}
use Rattle.aeth_reconf.proofs.writes.push_all_closing.Given as goal

-- The writes of the rows that are left are still to come.
abbrev pub invariant-loop-row : goal.invariant-loop-row
invariant-loop-row l =
    l.writes.items ++ flat_map closing_writes (drop l.row-index l.rows)
    ≡ l.fn.writes.items ++ flat_map closing_writes l.rows
