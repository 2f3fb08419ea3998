use Rattle.std.proofs.Common.{length, get_or, None}
use Rattle.aeth_router.specs.Router.{numbers_of}
use Rattle.aeth_router.proofs.Steps.{Drives-more, numbers_of-at, numbers_of-below}
use Rattle.aeth_router.proofs.traffic.clear.Goals as goal

-- Each outgoing link is a link.
pub put-requires : goal.put-requires
put-requires c =
    rw c.loop-link.invariant.links
    (numbers_of-below c.args.outgoing.now c.loop-link.link-index (length c.args.wires.now) _
    c.requires c.loop-link-test.true)

-- One link more is empty.
pub loop-link-preserved : goal.loop-link-preserved
loop-link-preserved c =
    let place = c.loop-link.link-index in
    let links = numbers_of c.args.outgoing.now in
    let within = c.loop-link-test.true in
    let link = (get_or c.args.outgoing.now place (record { 0 = 0 })).0 in
    rw c.put.ensures
    (Drives-more links (λ _. None) place link c.args.wires.now c.loop-link.wires
    (numbers_of-at c.args.outgoing.now place (record { 0 = 0 }) within)
    (numbers_of-below c.args.outgoing.now place (length c.args.wires.now) (record { 0 = 0 })
    c.requires within) c.loop-link.invariant)
