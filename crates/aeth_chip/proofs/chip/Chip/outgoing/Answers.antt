use Rattle.aeth_chip.{specs.declared.node.End.TheVariants.From, proofs.IndexLemmas.links_listed}
use Rattle.aeth_chip.proofs.chip.Chip.outgoing.Goals as goal

-- The index has the links of each router, and none past the last.
pub returns : goal.returns
returns c =
    rw (c.outgoing.ensures, ← c.self.view_is)
    (links_listed _ From c.self.inside.index.routers.outgoing.items c.self.invariant.0
    c.self.invariant.1.listed.outgoing c.args.router)
