use Rattle.aeth_chip.proofs.DistanceBounds.{some_onward-within}
use Rattle.aeth_chip.proofs.distances.Distances.onward.Goals as goal

-- A path passes distinct routers of the chip, so it is short.
pub returns-clause-within : goal.returns-clause-within
returns-clause-within c =
    let table = c.self.invariant in
    let within = c.if-r-self.false in
    some_onward-within c.self.inside.links.items c.self.inside.routers table.below table.few
    c.args.r c.args.b c.entry.result within
    (rw (c.entry.ensures, c.deref.ensures.value) (table.rows_are.onward c.args.r c.args.b within))
