use Rattle.std.proofs.Common.{◌≡◌, ◌++◌, All, map}
use Rattle.aeth_document.specs.Arrays.{tables_in}
use Rattle.aeth_app.specs.{Parts.connection_of, Ranges.IsConnectionInRange, Ranges.IsNamed}
use Rattle.aeth_app.proofs.parts.connections_of.Given as goal

abbrev pub invariant-loop-table : goal.invariant-loop-table
invariant-loop-table l = record {
  all : l.connections.items ++ map (connection_of l.cores) (tables_in l.table-iterator)
      ≡ map (connection_of l.cores) (tables_in l.fn.tables);
  named : All IsNamed (tables_in l.table-iterator);
  wishes : All IsConnectionInRange (tables_in l.table-iterator);
}
