-- What holds where no name of an application file stands twice.
use Rattle.std.proofs.Common.{◌≡◌, ◌++◌, [], None, flat_map}
use Rattle.toml.specs.Data.{Members}
use Rattle.aeth_document.specs.Walks.{repeats}
use Rattle.aeth_document.proofs.WalkLemmas.{distinct-from_walk, first_broken-after}
use Rattle.aeth_document.proofs.WalkLemmas.{first_broken-before}
use Rattle.aeth_app.specs.Repeats.{HasDistinctNames, name_twice, repeat_checks}
use Rattle.aeth_app.specs.Repeats.{repeated_connections}
use Rattle.aeth_app.specs.Tables.{connections_in, cores_in, names_in, uses_in}

-- What holds where the walk finds nothing.
pub are_apart : (root : Members) → name_twice root ≡ None → HasDistinctNames root
unfolding repeat_checks
are_apart root none =
    let of_cores = repeats [] (names_in (cores_in root)) in
    let of_connections = repeats [] (names_in (connections_in root)) in
    let of_uses = repeats [] (names_in (uses_in root)) in
    let lists = flat_map repeated_connections (uses_in root) in
    let to_uses = first_broken-before 0 ((of_cores ++ of_connections) ++ of_uses) lists none in
    let to_connections = first_broken-before 0 (of_cores ++ of_connections) of_uses to_uses in
    record {
      core_names = distinct-from_walk 0 (names_in (cores_in root))
          (first_broken-before 0 of_cores of_connections to_connections);
      connection_names = distinct-from_walk 0 (names_in (connections_in root))
          (first_broken-after 0 0 of_cores of_connections to_connections);
      use_names = distinct-from_walk 0 (names_in (uses_in root))
          (first_broken-after 0 0 (of_cores ++ of_connections) of_uses to_uses);
    }
