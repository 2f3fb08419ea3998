use Rattle.aeth_chip.proofs.DistanceBounds.{some_distance-within}
use Rattle.aeth_chip.proofs.distances.Distances.between.Goals as goal

-- A path passes distinct routers of the chip, so it is short.
pub returns-clause-within : goal.returns-clause-within
returns-clause-within c =
    let table = c.self.invariant in
    some_distance-within c.self.inside.links.items c.self.inside.routers table.below table.few
    c.args.a c.args.b c.entry.result
    (rw (c.entry.ensures, c.deref.ensures.value) (table.rows_are.between c.args.a c.args.b))
