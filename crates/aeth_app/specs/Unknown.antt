-- The texts of an application file that name nothing.
-- This project's own.
use Rattle.std.proofs.Common.{ℕ, List, [], ◌∷◌, ◌++◌, map, flat_map, codes, Option, Some, None}
use Rattle.std.proofs.Common.{is_none, if◌then◌else◌}
use Rattle.std.specs.List.{filter_map}
use Rattle.toml.specs.Data.{Members}
use Rattle.aeth_base.specs.declared.shown.{Broken.Broken, Shown.Shown}
use Rattle.aeth_base.specs.Shown.{shown_text}
use Rattle.aeth_document.specs.Values.{text_at, text_if, texts_at}
use Rattle.aeth_document.specs.Walks.{first_broken, place_of}
use Rattle.aeth_app.specs.Tables.{connections_in, cores_in, names_in, uses_in}

-- A text that is none of the names.
abbrev pub unknown : List (List ℕ) → List ℕ → Option Shown
unknown names text = if is_none (place_of names text) then Some (shown_text text) else None

-- The ends of a connection.
abbrev pub ends_in : Members → List (List ℕ)
ends_in connection = text_at (codes "from") connection ∷ text_at (codes "to") connection ∷ []

-- Rule 5, UnknownName: a text names nothing. The interfaces of the cores that have one are judged
-- first, then the ends of the connections, the connections of the use cases, and the use cases with
-- which they are smooth. The place runs through these texts from 0; the value is the text.
unfoldable pub unknown_checks : List (List ℕ) → Members → List (Option Shown)
unknown_checks nis root =
    map (unknown nis) (filter_map (text_if (codes "ni")) (cores_in root))
    ++ map (unknown (names_in (cores_in root))) (flat_map ends_in (connections_in root))
    ++ map (unknown (names_in (connections_in root)))
    (flat_map (texts_at (codes "connections")) (uses_in root))
    ++ map (unknown (names_in (uses_in root)))
    (flat_map (texts_at (codes "smooth")) (uses_in root))

-- The first such text, on a chip whose interfaces have these names.
abbrev pub unknown_name : List (List ℕ) → Members → Option Broken
unknown_name nis root = first_broken 0 (unknown_checks nis root)
