use Rattle.std.proofs.Common.{◌≡◌, drop, map}
use Rattle.aeth_document.specs.{Walks.walked, declared.walk.Walk.TheVariants.At}
use Rattle.aeth_app.specs.Demands.{own_end}
use Rattle.aeth_app.proofs.demands.core_to_itself.Given as goal

abbrev pub invariant-loop-connection : goal.invariant-loop-connection
invariant-loop-connection l =
    walked l.walk (map (own_end l.cores) (drop l.connection-index l.connections))
    ≡ walked (At 0) (map (own_end l.cores) l.connections)
