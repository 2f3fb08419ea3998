use Rattle.std.proofs.Common.{◌≡◌, map, flat_map}
use Rattle.aeth_document.specs.{Arrays.tables_in, Values.texts_at, Walks.walked}
use Rattle.aeth_app.specs.Unknown.{unknown}
use Rattle.aeth_app.proofs.unknown.texts_of.Given as goal

abbrev pub invariant-loop-table : goal.invariant-loop-table
invariant-loop-table l =
    walked l.walk
    (map (unknown l.names) (flat_map (texts_at l.key) (tables_in l.table-iterator)))
    ≡ walked l.fn.walk
    (map (unknown l.names) (flat_map (texts_at l.key) (tables_in l.fn.tables)))
