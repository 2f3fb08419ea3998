use Rattle.std.proofs.Common.{arith}
use Rattle.aeth_app.proofs.AppLemmas.{position_of-few}
use Rattle.aeth_app.proofs.EndLemmas.{position-from, position-to}
use Rattle.aeth_app.proofs.app.App.position.Goals as goal

-- The core is the first end.
pub returns-then-connection-core-clause-position : goal.returns-then-connection-core-clause-position
returns-then-connection-core-clause-position c =
    let app = c.self.inside in
    rw (← c.self.view_is) (position-from app.parts.connections.items app.positions.items
    c.args.connection.0 c.args.core c.connection.result c.positions_at-its.result
    c.self.invariant.2 (rw c.deref.ensures.value at c.positions_at-its.ensures)
    (rw (← c.self.view_is) at c.connection.ensures.connection) c.if-connection-core.true)

-- It is the second.
pub returns-else-connection-core-clause-position : goal.returns-else-connection-core-clause-position
returns-else-connection-core-clause-position c =
    let app = c.self.inside in
    rw (← c.self.view_is) (position-to app.parts.connections.items app.positions.items
    c.args.connection.0 c.args.core c.connection.result c.positions_at-its.result
    c.self.invariant.2 (rw c.deref.ensures.value at c.positions_at-its.ensures)
    (rw (← c.self.view_is) at c.connection.ensures.connection)
    (rw (← c.self.view_is) at c.requires) c.if-connection-core.false)

-- The connection itself is one of the core's, which are few.
pub returns-then-connection-core-clause-few : goal.returns-then-connection-core-clause-few
returns-then-connection-core-clause-few c =
    let few = (position_of-few _ c.args.core c.args.connection.0 c.self.invariant.0
    (rw (← c.self.view_is) at c.requires)).1 in
    let is = rw (← c.self.view_is) at (returns-then-connection-core-clause-position c) in
    omega (arith, few, is)

pub returns-else-connection-core-clause-few : goal.returns-else-connection-core-clause-few
returns-else-connection-core-clause-few c =
    let few = (position_of-few _ c.args.core c.args.connection.0 c.self.invariant.0
    (rw (← c.self.view_is) at c.requires)).1 in
    let is = rw (← c.self.view_is) at (returns-else-connection-core-clause-position c) in
    omega (arith, few, is)
