-- The names that are kept beside the tables of an application file.
-- This project's own.
use Rattle.std.proofs.Common.{◌≡◌, ◌≤◌, length}
use Rattle.toml.specs.Data.{Members}
use Rattle.aeth_app.specs.Limits.{max_connections, max_cores, max_uses}
use Rattle.aeth_app.specs.Tables.{connections_in, cores_in, names_in, uses_in}
use Rattle.aeth_app.specs.declared.app.PartNames.{PartNames}

-- The lists have the names of a file's cores, connections and use cases, in file order.
pub record AreNamesOf (root : Members) (names : PartNames) : Type 0 where
  pub cores : names.cores ≡ names_in (cores_in root)
  pub connections : names.connections ≡ names_in (connections_in root)
  pub uses : names.uses ≡ names_in (uses_in root)
  pub few_cores : length names.cores ≤ max_cores
  pub few_connections : length names.connections ≤ max_connections
  pub few_uses : length names.uses ≤ max_uses
