-- The keys of an application file's tables.
--
--   root_fields, core_fields, connection_fields, wish_fields, use_fields    what each table has
--   key_checks, wrong_keys    the walk over all tables
-- This project's own.
use Rattle.std.proofs.Common.{List, [], ◌∷◌, ◌++◌, map, flat_map, codes, Option}
use Rattle.toml.specs.Data.{Members}
use Rattle.aeth_base.specs.declared.shown.{Broken.Broken, Shown.Shown}
use Rattle.aeth_document.specs.{Keys.Fields, Keys.wrong_key, Walks.first_broken}
use Rattle.aeth_app.specs.Tables.{connections_in, cores_in, uses_in, wish_at}
use Rattle.aeth_document.specs.declared.keys.Kind.TheVariants as kind

-- The root table's keys.
abbrev pub root_fields : Fields
root_fields =
    (codes "connection", kind.Tables) ∷ (codes "core", kind.Tables)
    ∷ (codes "cost", kind.OptionalText) ∷ (codes "detour", kind.Integer)
    ∷ (codes "use", kind.Tables) ∷ (codes "version", kind.Integer) ∷ []

-- A core table's keys.
abbrev pub core_fields : Fields
core_fields = (codes "name", kind.Text) ∷ (codes "ni", kind.OptionalText) ∷ []

-- A connection table's keys.
abbrev pub connection_fields : Fields
connection_fields =
    (codes "back", kind.Table) ∷ (codes "from", kind.Text) ∷ (codes "fwd", kind.Table)
    ∷ (codes "name", kind.Text) ∷ (codes "to", kind.Text) ∷ []

-- The keys of a wish, which is the table `fwd` or `back` of a connection.
abbrev pub wish_fields : Fields
wish_fields =
    (codes "delay", kind.Integer) ∷ (codes "latency", kind.Integer) ∷ (codes "per", kind.Integer)
    ∷ (codes "words", kind.Integer) ∷ []

-- A use case table's keys.
abbrev pub use_fields : Fields
use_fields =
    (codes "connections", kind.Texts) ∷ (codes "name", kind.Text)
    ∷ (codes "smooth", kind.OptionalTexts) ∷ []

-- The wrong keys of a connection's own table, of its `fwd` and of its `back`.
abbrev pub wrong_connection_keys : Members → List (Option Shown)
wrong_connection_keys connection =
    wrong_key connection_fields connection
    ∷ wrong_key wish_fields (wish_at (codes "fwd") connection)
    ∷ wrong_key wish_fields (wish_at (codes "back") connection) ∷ []

-- Rule 2, WrongKey: a key is missing, unknown or of another type. The root is judged first, then
-- each core, each connection with its `fwd` and its `back`, and each use case. The place is that of
-- the table in this walk, from 0; the value is the least such key of the table in byte order.
unfoldable pub key_checks : Members → List (Option Shown)
key_checks root =
    wrong_key root_fields root ∷ map (wrong_key core_fields) (cores_in root)
    ++ flat_map wrong_connection_keys (connections_in root)
    ++ map (wrong_key use_fields) (uses_in root)

abbrev pub wrong_keys : Members → Option Broken
wrong_keys root = first_broken 0 (key_checks root)
