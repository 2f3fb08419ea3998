use Rattle.aeth_tables.{proofs.ListLaws.flat_map-next, specs.Tables.rows_on, specs.Tables.shapes_on}
use Rattle.aeth_tables.proofs.rows.tables_with.Goals as goal

-- One more connection.
pub loop-granted-preserved : goal.loop-granted-preserved
loop-granted-preserved c =
    let chip = c.args.chip.now in
    let app = c.args.app.now in
    let ones = c.args.connections.now in
    let i = c.loop-granted.granted-index in
    let one = c.granted-item.result in
    record {
      rows = flat_map-next (rows_on chip app) ones i one c.loop-granted.rows.items _
          c.loop-granted-test.true c.granted-item.is c.loop-granted.invariant.rows
          c.in_ok-push_connection.ensures.rows;
      shapes = flat_map-next (shapes_on chip app) ones i one c.loop-granted.shapes.items _
          c.loop-granted-test.true c.granted-item.is c.loop-granted.invariant.shapes
          c.in_ok-push_connection.ensures.shapes;
    }
