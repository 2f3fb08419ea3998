use Rattle.std.proofs.Common.{◌∙◌, [], sym, flat_map}
use Rattle.toml.specs.View.{table_view}
use Rattle.aeth_document.specs.Walks.{repeats}
use Rattle.aeth_app.specs.Repeats.{repeat_checks, repeated_connections}
use Rattle.aeth_app.specs.Tables.{connections_in, cores_in, names_in, uses_in}
use Rattle.aeth_app.proofs.{RepeatLemmas.are_apart, WalkParts.found-four}
use Rattle.aeth_app.proofs.repeats.name_twice.Goals as goal

-- The walk over the lists finds the first.
pub returns-clause-found : goal.returns-clause-found
unfolding repeat_checks
returns-clause-found c =
    let root = table_view c.args.root.now in
    rw (
      c.found.ensures,
      c.in_ok-repeated_connections.ensures,
      c.tables_at-4.ensures,
      c.in_ok-after_uses.ensures,
      c.tables_at-3.ensures,
      c.in_ok-after_connections.ensures,
      c.tables_at-2.ensures,
      c.in_ok-after_cores.ensures,
      c.tables_at.ensures,
      c.from.ensures,
    ) (found-four 0 (repeats [] (names_in (cores_in root)))
    (repeats [] (names_in (connections_in root))) (repeats [] (names_in (uses_in root)))
    (flat_map repeated_connections (uses_in root)))

-- Where it finds nothing, no name stands twice.
pub returns-clause-none : goal.returns-clause-none
returns-clause-none c = λ none.
    are_apart (table_view c.args.root.now) (sym (returns-clause-found c) ∙ none)
