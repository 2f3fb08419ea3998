use Rattle.std.proofs.Common.{◌+◌}
use Rattle.aeth_slots.proofs.RoundSearch.{IsSearching}
use Rattle.aeth_slots.proofs.choice.fewest.Given as goal

-- The earliest slot over so many slots, and that no way has fewer.
abbrev pub invariant-loop-count : goal.invariant-loop-count
invariant-loop-count l =
    IsSearching l.free.slots (l.first + l.free.size) l.gap l.first l.count l.earliest
