use Rattle.aeth_group.proofs.UnitLemmas.{UnitsBefore}
use Rattle.aeth_group.proofs.groups.Groups.units.Given as goal

-- The units of the connections so far are counted.
abbrev pub invariant-loop-c : goal.invariant-loop-c
invariant-loop-c l = UnitsBefore l.self l.c l.units
