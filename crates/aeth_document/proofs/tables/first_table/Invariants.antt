use Rattle.std.{proofs.Common.◌≡◌, proofs.Common.length, proofs.Common.map, specs.List.filter_map}
use Rattle.toml.specs.{Data.as_table, View.view}
use Rattle.aeth_document.proofs.tables.first_table.Given as goal

abbrev pub invariant-loop-value : goal.invariant-loop-value
invariant-loop-value l =
    filter_map as_table (map view l.left) ≡ filter_map as_table (map view l.values)

abbrev pub decreases-loop-value : goal.decreases-loop-value
decreases-loop-value l = length l.left
