-- Names that were looked up. This project's own.
--
--   IsNamed      a connection of an application, and its name
use Rattle.std.proofs.Common.{◌≡◌, Some}
use Rattle.aeth_app.specs.App.{AppData}
use Rattle.aeth_plan.specs.{declared.known.Named.Named, Plan.connection_names, Rules.place_among}

-- The connection is the application's of this name.
abbrev pub IsNamed : AppData → Named → Type 0
IsNamed app named = place_among (connection_names app) named.name ≡ Some named.conn.0
