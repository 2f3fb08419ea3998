use Rattle.std.proofs.Common.{◌≡◌, ◌++◌, drop}
use Rattle.aeth_tables.specs.TableText.{promised_of}
use Rattle.aeth_tables.proofs.promised.promised_of.Given as goal

-- The rows that are left are still to come.
abbrev pub invariant-loop-place : goal.invariant-loop-place
invariant-loop-place l =
    l.all.items ++ promised_of (drop l.place l.rows) (drop l.place l.shapes)
    ≡ promised_of l.rows l.shapes
