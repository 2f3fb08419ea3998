use Rattle.aeth_slots.proofs.RoundSearch.{IsLeastSoFar}
use Rattle.aeth_slots.proofs.choice.least_size.Given as goal

-- The least round from an earlier start, or the whole free set.
abbrev pub invariant-loop-first : goal.invariant-loop-first
invariant-loop-first l = IsLeastSoFar l.free l.gap l.first l.least
