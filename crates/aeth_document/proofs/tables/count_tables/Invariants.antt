use Rattle.std.proofs.Common.{◌≡◌, ◌+◌, ◌≤◌, drop, length, map}
use Rattle.std.specs.List.{filter_map}
use Rattle.toml.specs.{Data.as_table, View.view}
use Rattle.aeth_document.proofs.tables.count_tables.Given as goal

abbrev pub invariant-loop-value : goal.invariant-loop-value
invariant-loop-value l = record {
  counted : l.count + length (filter_map as_table (map view (drop l.value-index l.values)))
      ≡ length (filter_map as_table (map view l.values));
  within : l.count ≤ l.value-index;
}
