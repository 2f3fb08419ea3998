use Rattle.std.proofs.Common.{All, drop, sym, subst}
use Rattle.aeth_group.specs.declared.grant.Grant.{Grant}
use Rattle.aeth_server.specs.{ChannelShape.IsShapeInRange, declared.shape.ChannelShape.ChannelShape}
use Rattle.aeth_tables.specs.{Granted.grant_on, Routes.IsSent}
use Rattle.aeth_tables.proofs.{PortLaws.all_sent, SentLinks.sent_along, ShapeRanges.shape_in_range}
use Rattle.aeth_tables.proofs.rows.row_on.Goals as goal

-- Routers send on all links of the path but the first.
pub route_along-requires-clause-sent : goal.route_along-requires-clause-sent
route_along-requires-clause-sent c =
    let chip = c.args.chip.now in
    let granted = c.args.granted.now in
    let side = c.args.side in
    let path = (grant_on granted side).path in
    subst (λ (grant : Grant). All (IsSent chip.links) (drop 1 grant.path))
    (sym c.grant_on-grant.ensures)
    (all_sent chip path (sent_along chip.links c.args.app.now.detour _ _ path
    (c.requires.granted.serves side).admissible))

-- The shape is in its range.
pub buffer-requires : goal.buffer-requires
buffer-requires c =
    subst (λ (shape : ChannelShape). IsShapeInRange shape) (sym c.requires.shape)
    (shape_in_range c.args.chip.now c.args.app.now c.requires.chip c.requires.app
    c.args.granted.now c.requires.granted c.args.side)
