-- The names of an application file that stand twice.
-- This project's own.
use Rattle.std.proofs.Common.{List, [], ◌++◌, flat_map, codes, Option}
use Rattle.std.specs.{List.IsDistinct, Str.bytes_eq}
use Rattle.toml.specs.Data.{Members}
use Rattle.aeth_base.specs.declared.shown.{Broken.Broken, Shown.Shown}
use Rattle.aeth_document.specs.{Values.texts_at, Walks.first_broken, Walks.repeats}
use Rattle.aeth_app.specs.Tables.{connections_in, cores_in, names_in, uses_in}

-- For each of a use case's connections whether it stands there before.
abbrev pub repeated_connections : Members → List (Option Shown)
repeated_connections one = repeats [] (texts_at (codes "connections") one)

-- Rule 4, NameTwice: a text equals an earlier one of its own list. The lists are the cores, the
-- connections, the use cases, then the connections of each use case. The place runs through all
-- lists from 0; the value is the text.
unfoldable pub repeat_checks : Members → List (Option Shown)
repeat_checks root =
    repeats [] (names_in (cores_in root)) ++ repeats [] (names_in (connections_in root))
    ++ repeats [] (names_in (uses_in root)) ++ flat_map repeated_connections (uses_in root)

abbrev pub name_twice : Members → Option Broken
name_twice root = first_broken 0 (repeat_checks root)

-- What holds where no name stands twice.
pub record HasDistinctNames (root : Members) : Type 0 where
  pub core_names : IsDistinct bytes_eq (names_in (cores_in root))
  pub connection_names : IsDistinct bytes_eq (names_in (connections_in root))
  pub use_names : IsDistinct bytes_eq (names_in (uses_in root))
