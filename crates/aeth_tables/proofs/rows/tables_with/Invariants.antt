use Rattle.std.proofs.Common.{◌≡◌, take, flat_map}
use Rattle.aeth_tables.specs.Tables.{rows_on, shapes_on}
use Rattle.aeth_tables.proofs.rows.tables_with.Given as goal

-- The rows and the shapes of the connections so far.
abbrev pub invariant-loop-granted : goal.invariant-loop-granted
invariant-loop-granted l = record {
  rows : l.rows.items ≡ flat_map (rows_on l.chip l.app) (take l.granted-index l.connections);
  shapes : l.shapes.items ≡ flat_map (shapes_on l.chip l.app) (take l.granted-index l.connections);
}
