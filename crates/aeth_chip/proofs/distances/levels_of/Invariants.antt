use Rattle.aeth_chip.specs.Distances.{AreLevelRows}
use Rattle.aeth_chip.proofs.distances.levels_of.Given as goal

-- The rows of the interfaces so far.
abbrev pub invariant-loop-ni : goal.invariant-loop-ni
invariant-loop-ni l = AreLevelRows l.origins l.routers l.ni l.rows.items
