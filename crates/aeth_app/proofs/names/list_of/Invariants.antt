use Rattle.std.proofs.Common.{◌≡◌, ◌++◌, All}
use Rattle.aeth_document.specs.Arrays.{tables_in}
use Rattle.aeth_app.specs.{Ranges.IsNamed, Tables.names_in}
use Rattle.aeth_app.proofs.names.list_of.Given as goal

-- The names so far, and those that are left.
abbrev pub invariant-loop-table : goal.invariant-loop-table
invariant-loop-table l = record {
  all : l.list.items ++ names_in (tables_in l.table-iterator) ≡ names_in (tables_in l.fn.tables);
  named : All IsNamed (tables_in l.table-iterator);
}
