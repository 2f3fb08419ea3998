use Rattle.aeth_clocked.proofs.MarkedWiresLemmas.{empty-unmarked}
use Rattle.aeth_clocked.proofs.wires.Wires.is_empty.Goals as goal

-- A link is empty just where it isn't marked.
pub returns : goal.returns
returns c =
    rw (← c.self.view_is)
    (empty-unmarked c.self.inside.used c.self.inside.flits.items c.args.link.0 c.has.result
    c.self.invariant c.has.ensures)
