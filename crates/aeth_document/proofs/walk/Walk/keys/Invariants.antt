use Rattle.std.proofs.Common.{◌≡◌, map}
use Rattle.aeth_document.specs.{Keys.fields_view, Keys.wrong_key, Arrays.tables_in, Walks.walked}
use Rattle.aeth_document.proofs.walk.Walk.keys.Given as goal

abbrev pub invariant-loop-table : goal.invariant-loop-table
invariant-loop-table l = walked l.walk (map (wrong_key (fields_view l.fields)) (tables_in l.table-iterator))
    ≡ walked l.fn.self (map (wrong_key (fields_view l.fields)) (tables_in l.fn.tables))
