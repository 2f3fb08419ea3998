use Rattle.std.proofs.Common.{◌≡◌, [], ◌∷◌, drop, flat_map}
use Rattle.aeth_document.specs.{Walks.walked, declared.walk.Walk.TheVariants.At}
use Rattle.aeth_app.specs.Demands.{too_fast}
use Rattle.aeth_app.proofs.demands.rate_too_high.Given as goal

abbrev pub invariant-loop-connection : goal.invariant-loop-connection
invariant-loop-connection l =
    walked l.walk (flat_map (λ c. too_fast c.fwd ∷ too_fast c.back ∷ [])
    (drop l.connection-index l.connections))
    ≡ walked (At 0) (flat_map (λ c. too_fast c.fwd ∷ too_fast c.back ∷ []) l.connections)
