use Rattle.std.proofs.Common.{◌≡◌, ◌++◌, All, map}
use Rattle.aeth_document.specs.Arrays.{tables_in}
use Rattle.aeth_app.specs.{Parts.use_of, Ranges.IsNamed}
use Rattle.aeth_app.proofs.parts.uses_of.Given as goal

abbrev pub invariant-loop-table : goal.invariant-loop-table
invariant-loop-table l = record {
  all : l.uses.items
      ++ map (use_of l.names.connections l.names.uses) (tables_in l.table-iterator)
      ≡ map (use_of l.names.connections l.names.uses) (tables_in l.fn.tables);
  named : All IsNamed (tables_in l.table-iterator);
}
