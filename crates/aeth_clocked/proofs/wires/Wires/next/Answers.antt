use Rattle.std.proofs.Common.{arith}
use Rattle.aeth_clocked.proofs.MarkedWiresLemmas.{as_many_kept, flit_on-none, flit_on-some}
use Rattle.aeth_clocked.proofs.wires.Wires.next.Goals as goal

-- Links that aren't marked are empty.
pub returns-clause-empty : goal.returns-clause-empty
returns-clause-empty c = λ link after below.
    rw (← c.self.view_is)
    (flit_on-none c.self.inside.used c.self.inside.flits.items link c.self.invariant
    (λ one. omega (arith, c.next.ensures.none link after below, one)))

-- The one that is found has a flit.
pub returns-clause-found : goal.returns-clause-found
returns-clause-found c = λ below.
    let marks = c.self.inside.used in
    let flits = c.self.inside.flits.items in
    let size = as_many_kept marks flits c.args.self.now c.self.view_is in
    rw (← c.self.view_is)
    (flit_on-some marks flits c.next.result c.self.invariant (c.next.ensures.found (omega arith)))
