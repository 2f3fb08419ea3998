use Rattle.std.proofs.Common.{◌≡◌, map}
use Rattle.aeth_document.specs.{Arrays.tables_in, Walks.no_name, Walks.walked}
use Rattle.aeth_app.specs.Tables.{names_in}
use Rattle.aeth_app.proofs.ranges.names.Given as goal

abbrev pub invariant-loop-table : goal.invariant-loop-table
invariant-loop-table l =
    walked l.walk (map no_name (names_in (tables_in l.table-iterator)))
    ≡ walked l.fn.walk (map no_name (names_in (tables_in l.fn.tables)))
