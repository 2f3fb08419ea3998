use Rattle.std.proofs.Common.{map, codes, flat_map}
use Rattle.std.specs.List.{filter_map}
use Rattle.toml.specs.View.{table_view}
use Rattle.aeth_document.specs.Values.{text_if, texts_at}
use Rattle.aeth_app.specs.Tables.{connections_in, cores_in, names_in, uses_in}
use Rattle.aeth_app.specs.Unknown.{ends_in, unknown, unknown_checks}
use Rattle.aeth_app.proofs.WalkParts.{found-four}
use Rattle.aeth_app.proofs.unknown.unknown_name.Goals as goal

-- The walk over all texts finds the first.
pub returns : goal.returns
unfolding unknown_checks
returns c =
    let root = table_view c.args.root.now in
    rw (
      c.found.ensures,
      c.texts_of.ensures,
      c.tables_at-3.ensures,
      c.texts_of-after_members.ensures,
      c.tables_at-uses.ensures,
      c.ends-after_ends.ensures,
      c.tables_at-2.ensures,
      c.interfaces-after_nis.ensures,
      c.tables_at.ensures,
      c.from.ensures,
      c.requires.cores,
      c.requires.connections,
      c.requires.uses,
    ) (found-four 0
    (map (unknown c.args.chip.now.nis) (filter_map (text_if (codes "ni")) (cores_in root)))
    (map (unknown (names_in (cores_in root))) (flat_map ends_in (connections_in root)))
    (map (unknown (names_in (connections_in root)))
    (flat_map (texts_at (codes "connections")) (uses_in root)))
    (map (unknown (names_in (uses_in root))) (flat_map (texts_at (codes "smooth")) (uses_in root))))
