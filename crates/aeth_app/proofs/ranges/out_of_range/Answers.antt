use Rattle.std.proofs.Common.{◌∙◌, map, sym, flat_map}
use Rattle.toml.specs.View.{table_view}
use Rattle.aeth_document.specs.Walks.{no_name}
use Rattle.aeth_app.specs.Ranges.{connection_ranges, numbers, range_checks}
use Rattle.aeth_app.specs.Tables.{connections_in, cores_in, names_in, uses_in}
use Rattle.aeth_app.proofs.{RangeLemmas.in_range, WalkParts.found-five}
use Rattle.aeth_app.proofs.ranges.out_of_range.Goals as goal

-- The walk over the numbers, the names and the wishes finds the first.
pub returns-clause-found : goal.returns-clause-found
unfolding range_checks
returns-clause-found c =
    let root = table_view c.args.root.now in
    rw (
      c.found.ensures,
      c.wishes.ensures,
      c.tables_at-4.ensures,
      c.names-after_uses.ensures,
      c.tables_at-3.ensures,
      c.names-after_connections.ensures,
      c.tables_at-2.ensures,
      c.names-after_cores.ensures,
      c.tables_at.ensures,
      c.numbers-after_numbers.ensures,
      c.from.ensures,
    ) (found-five 1 (numbers root) (map no_name (names_in (cores_in root)))
    (map no_name (names_in (connections_in root))) (map no_name (names_in (uses_in root)))
    (flat_map connection_ranges (connections_in root)))

-- Where it finds nothing, all are in their ranges.
pub returns-clause-none : goal.returns-clause-none
returns-clause-none c = λ none.
    in_range (table_view c.args.root.now) (sym (returns-clause-found c) ∙ none)
