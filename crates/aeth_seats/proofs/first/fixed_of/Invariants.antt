use Rattle.std.proofs.Common.{◌≡◌, map, take}
use Rattle.aeth_seats.proofs.first.fixed_of.Given as goal

-- Where the cores so far are fixed.
abbrev pub invariant-loop-core : goal.invariant-loop-core
invariant-loop-core l = l.fixed.items ≡ map (λ core. core.fixed) (take l.core l.app.cores)
