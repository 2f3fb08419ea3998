use Rattle.std.proofs.Common.{◌∙◌, ◌∷◌, [], refl, flat_map}
use Rattle.aeth_app.{specs.Demands.too_fast, proofs.WalkParts.found-list}
use Rattle.aeth_app.proofs.demands.rate_too_high.Goals as goal

-- The walk over all wishes finds the first.
pub returns : goal.returns
returns c =
    c.found.ensures ∙ found-list (flat_map (λ w. too_fast w.fwd ∷ too_fast w.back ∷ []))
    c.args.connections.now c.loop-connection.connection-index 0 c.loop-connection.walk refl
    c.loop-connection-test.false c.loop-connection.invariant
