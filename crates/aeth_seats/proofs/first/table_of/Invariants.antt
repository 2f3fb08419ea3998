use Rattle.std.proofs.Common.{length}
use Rattle.aeth_seats.proofs.SeatingLemmas.{IsSeating}
use Rattle.aeth_seats.proofs.first.table_of.Given as goal

-- The cores so far are seated.
abbrev pub invariant-loop-core : goal.invariant-loop-core
invariant-loop-core l = IsSeating (length l.chip.nis) l.fixed l.table l.core
