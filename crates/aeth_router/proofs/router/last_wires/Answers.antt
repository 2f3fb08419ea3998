use Rattle.std.proofs.Common.{length}
use Rattle.aeth_router.specs.Router.{last_wire}
use Rattle.aeth_router.proofs.Steps.{numbers_of-below, numbers_of-more}
use Rattle.aeth_router.proofs.router.last_wires.Goals as goal

-- Each is a link of the chip.
pub last_wire-requires : goal.last_wire-requires
last_wire-requires c =
    numbers_of-below c.args.links.now c.loop-link.link-index (length c.args.chip.now.links) _
    c.requires c.loop-link-test.true

-- The last wire of one link more.
pub loop-link-preserved : goal.loop-link-preserved
loop-link-preserved c =
    rw c.in_ok-push.ensures.items
    (numbers_of-more (last_wire c.args.chip.now.links) c.args.links.now c.loop-link.wires.items
    c.loop-link.link-index _ c.last_wire.result c.loop-link-test.true c.last_wire.ensures
    c.loop-link.invariant)
