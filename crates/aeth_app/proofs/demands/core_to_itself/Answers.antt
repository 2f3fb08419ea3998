use Rattle.std.proofs.Common.{◌∙◌, map, refl}
use Rattle.aeth_app.{specs.Demands.own_end, proofs.WalkParts.found-list}
use Rattle.aeth_app.proofs.demands.core_to_itself.Goals as goal

-- The walk over all connections finds the first.
pub returns : goal.returns
returns c =
    c.found.ensures ∙ found-list (map (own_end c.args.cores.now)) c.args.connections.now
    c.loop-connection.connection-index 0 c.loop-connection.walk refl
    c.loop-connection-test.false c.loop-connection.invariant
