use Rattle.std.proofs.Common.{◌≡◌, flat_map}
use Rattle.aeth_document.specs.{Arrays.tables_in, Walks.walked}
use Rattle.aeth_app.specs.Ranges.{connection_ranges}
use Rattle.aeth_app.proofs.ranges.wishes.Given as goal

abbrev pub invariant-loop-connection : goal.invariant-loop-connection
invariant-loop-connection l =
    walked l.walk (flat_map connection_ranges (tables_in l.connection-iterator))
    ≡ walked l.fn.walk (flat_map connection_ranges (tables_in l.fn.connections))
