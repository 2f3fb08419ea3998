-- The ends of connections, and their names.
--
--   sender, receiver      the cores that send and receive on a side
--   connection_names      the names of an application's connections
-- A connection with a channel each way: after Æthereal (2005).
use Rattle.std.proofs.Common.{ℕ, List, map}
use Rattle.aeth_base.specs.declared.ids.CoreId.{CoreId}
use Rattle.aeth_base.specs.declared.ids.Side.{Side, TheVariants.Back, TheVariants.Fwd}
use Rattle.aeth_app.specs.{App.AppData, declared.connection.Connection.Connection}

-- The core that sends on a side of a connection.
abbrev pub sender : Connection → Side → CoreId
sender connection Fwd = connection.from
sender connection Back = connection.to

-- The core that receives on a side of a connection.
abbrev pub receiver : Connection → Side → CoreId
receiver connection Fwd = connection.to
receiver connection Back = connection.from

-- The names of the connections, in file order.
abbrev pub connection_names : AppData → List (List ℕ)
connection_names app = map (λ connection. connection.name) app.connections
