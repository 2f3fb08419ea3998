use Rattle.std.proofs.Common.{◌≡◌, ◌++◌, All, map}
use Rattle.aeth_document.specs.Arrays.{tables_in}
use Rattle.aeth_app.specs.{Parts.core_of, Ranges.IsNamed}
use Rattle.aeth_app.proofs.parts.cores_of.Given as goal

abbrev pub invariant-loop-table : goal.invariant-loop-table
invariant-loop-table l = record {
  all : l.cores.items ++ map (core_of l.chip.nis) (tables_in l.table-iterator)
      ≡ map (core_of l.chip.nis) (tables_in l.fn.tables);
  named : All IsNamed (tables_in l.table-iterator);
}
