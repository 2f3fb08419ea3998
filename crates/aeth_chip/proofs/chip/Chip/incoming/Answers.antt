use Rattle.aeth_chip.{specs.declared.node.End.TheVariants.To, proofs.IndexLemmas.links_listed}
use Rattle.aeth_chip.proofs.chip.Chip.incoming.Goals as goal

-- The index has the links of each router, and none past the last.
pub returns : goal.returns
returns c =
    rw (c.incoming.ensures, ← c.self.view_is)
    (links_listed _ To c.self.inside.index.routers.incoming.items c.self.invariant.0
    c.self.invariant.1.listed.incoming c.args.router)
