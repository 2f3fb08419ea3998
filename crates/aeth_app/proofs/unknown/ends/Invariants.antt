use Rattle.std.proofs.Common.{◌≡◌, map, flat_map}
use Rattle.aeth_document.specs.{Arrays.tables_in, Walks.walked}
use Rattle.aeth_app.specs.Unknown.{ends_in, unknown}
use Rattle.aeth_app.proofs.unknown.ends.Given as goal

abbrev pub invariant-loop-connection : goal.invariant-loop-connection
invariant-loop-connection l =
    walked l.walk
    (map (unknown l.names) (flat_map ends_in (tables_in l.connection-iterator)))
    ≡ walked l.fn.walk
    (map (unknown l.names) (flat_map ends_in (tables_in l.fn.connections)))
