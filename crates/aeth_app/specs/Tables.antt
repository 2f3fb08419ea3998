-- The tables of an application file, by its root table.
-- This project's own.
use Rattle.std.proofs.Common.{ℕ, List, codes, map, unwrap_or}
use Rattle.toml.specs.Data.{Members, no_members}
use Rattle.aeth_document.specs.Values.{table_at, tables_at, text_at}

-- The tables of the cores.
abbrev pub cores_in : Members → List Members
cores_in root = tables_at (codes "core") root

-- The tables of the connections.
abbrev pub connections_in : Members → List Members
connections_in root = tables_at (codes "connection") root

-- The tables of the use cases.
abbrev pub uses_in : Members → List Members
uses_in root = tables_at (codes "use") root

-- The names of some tables.
abbrev pub names_in : List Members → List (List ℕ)
names_in tables = map (text_at (codes "name")) tables

-- The table of a connection's wish, empty where none stands there.
abbrev pub wish_at : List ℕ → Members → Members
wish_at side connection = unwrap_or (table_at side connection) no_members
