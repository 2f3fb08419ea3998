use Rattle.std.proofs.Common.{◌∙◌, sym}
use Rattle.aeth_tables.proofs.{ReservedLaws.made_of, UseLaws.reserved_from_made}
use Rattle.aeth_tables.proofs.buffering.push_unit.Goals as goal

-- The connection has the seats and grants that it must.
pub push_granted-requires-clause-granted : goal.push_granted-requires-clause-granted
push_granted-requires-clause-granted c =
    let app = c.args.app.now in
    let plan = c.args.plan.now in
    let unit = c.args.unit in
    reserved_from_made c.args.chip.now app plan c.requires.design unit.group.0 unit.conn.0
    c.in-Some.granted (made_of app plan unit.group.0 unit.conn.0 c.in-Some.granted
    (sym c.granted_near.ensures ∙ c.in-Some.is))
