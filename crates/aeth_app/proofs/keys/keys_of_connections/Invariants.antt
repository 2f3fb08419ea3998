use Rattle.std.proofs.Common.{◌≡◌, flat_map}
use Rattle.aeth_document.specs.{Arrays.tables_in, Walks.walked}
use Rattle.aeth_app.specs.Keys.{wrong_connection_keys}
use Rattle.aeth_app.proofs.keys.keys_of_connections.Given as goal

abbrev pub invariant-loop-connection : goal.invariant-loop-connection
invariant-loop-connection l =
    walked l.walk (flat_map wrong_connection_keys (tables_in l.connection-iterator))
    ≡ walked l.fn.walk (flat_map wrong_connection_keys (tables_in l.fn.connections))
