use Rattle.std.proofs.Common.{◌∙◌, ap, arith}
use Rattle.aeth_document.specs.Walks.{walked}
use Rattle.aeth_chip.proofs.IndexLemmas.{crowded-each}
use Rattle.aeth_chip.proofs.ports.crowded_routers.Goals as goal

-- The lists of a router have as many links as begin and end there.
pub returns : goal.returns
returns c =
    c.crowded_lists.ensures
    ∙ ap (walked c.args.walk)
    (crowded-each c.args.listed.now.links.items c.args.routers c.args.listed.now.routers c.requires
    0 c.args.routers (omega arith))
