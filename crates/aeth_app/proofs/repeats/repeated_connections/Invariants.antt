use Rattle.std.proofs.Common.{◌≡◌, flat_map}
use Rattle.aeth_document.specs.{Arrays.tables_in, Walks.walked}
use Rattle.aeth_app.specs.Repeats.{repeated_connections}
use Rattle.aeth_app.proofs.repeats.repeated_connections.Given as goal

abbrev pub invariant-loop-one : goal.invariant-loop-one
invariant-loop-one l =
    walked l.walk (flat_map repeated_connections (tables_in l.one-iterator))
    ≡ walked l.fn.walk (flat_map repeated_connections (tables_in l.fn.uses))
