use Rattle.std.proofs.Common.{◌≡◌, map}
use Rattle.aeth_document.specs.{Arrays.tables_in, Walks.repeats, Walks.walked}
use Rattle.aeth_app.specs.Tables.{names_in}
use Rattle.aeth_app.proofs.repeats.with_names.Given as goal

abbrev pub invariant-loop-table : goal.invariant-loop-table
invariant-loop-table l =
    walked l.walk (repeats (map (λ t. t.now) l.seen.keys) (names_in (tables_in l.table-iterator)))
    ≡ walked l.fn.walk (repeats (map (λ t. t.now) l.initial.seen.keys)
    (names_in (tables_in l.fn.tables)))
