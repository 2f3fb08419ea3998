use Rattle.std.proofs.Common.{◌∙◌, ◌+◌, ◌*◌, ap, sym}
use Rattle.std.proofs.lemmas.Option.{get_or_from_slice_get}
use Rattle.aeth_base.specs.declared.ids.CoreId.{CoreId}
use Rattle.aeth_app.specs.{App.position_of, Connections.receiver, Limits.max_core_connections}
use Rattle.aeth_app.specs.{declared.connection.Connection.Connection}
use Rattle.aeth_report.specs.Design.{no_connection}
use Rattle.aeth_audit.specs.Tables.{seat_number}
use Rattle.aeth_audit.proofs.table.address_of.Goals as goal

-- The connection is there, so its receiver is that of the definition.
pub returns : goal.returns
returns c =
    let all = c.args.app.now.connections in
    let conn = c.args.grant.now.unit.conn.0 in
    let found = get_or_from_slice_get all conn c.connection.result no_connection
    c.connection.ensures.connection in
    let core = c.receiver-core.ensures
    ∙ ap (λ (one : Connection). receiver one c.args.grant.now.side) (sym found) in
    let seat = c.seat_number-seat.ensures ∙ ap (seat_number c.args.seats.now) core in
    let position = c.position.ensures.position
    ∙ ap (λ (one : CoreId). position_of all one conn) core in
    λ i. record {
      route = c.route_along.ensures i;
      queue = max_core_connections * seat i + position i;
    }
