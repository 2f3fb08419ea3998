use Rattle.std.proofs.Common.{◌∷◌, [], map, flat_map}
use Rattle.aeth_document.specs.Keys.{wrong_key}
use Rattle.toml.specs.View.{table_view}
use Rattle.aeth_app.specs.Keys.{core_fields, key_checks, root_fields, use_fields}
use Rattle.aeth_app.specs.Keys.{wrong_connection_keys}
use Rattle.aeth_app.specs.Tables.{connections_in, cores_in, uses_in}
use Rattle.aeth_app.proofs.WalkParts.{found-four}
use Rattle.aeth_app.proofs.keys.wrong_keys.Goals as goal

-- The walk over all tables finds the first.
pub returns : goal.returns
unfolding key_checks
returns c =
    let root = table_view c.args.root.now in
    rw (
      c.found.ensures,
      c.keys.ensures,
      c.tables_at-3.ensures,
      c.keys_of_connections-walk.ensures,
      c.tables_at-2.ensures,
      c.keys-walk.ensures,
      c.tables_at.ensures,
      c.check.ensures,
      c.wrong_key.ensures,
      c.from.ensures,
    ) (found-four 0 (wrong_key root_fields root ∷ []) (map (wrong_key core_fields) (cores_in root))
    (flat_map wrong_connection_keys (connections_in root))
    (map (wrong_key use_fields) (uses_in root)))
