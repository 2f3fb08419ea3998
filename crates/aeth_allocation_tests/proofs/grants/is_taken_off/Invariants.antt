use Rattle.std.proofs.Common.{◌≡◌}
use Rattle.aeth_allocation_tests.proofs.grants.is_taken_off.Given as goal

-- The links are those of the chip.
abbrev pub invariant-loop-conn : goal.invariant-loop-conn
invariant-loop-conn l = l.book.links ≡ l.chip.links
