-- The numbers and names of an application file that are out of their ranges.
--
--   no_price    a cost that is none of the two
--   numbers, wish_ranges, connection_ranges    the checks of the file's numbers
--   range_checks, out_of_range    the walk over all of them
--   IsNamed, IsWishInRange, IsConnectionInRange, IsInRange    what holds where none is
-- This project's own.
use Rattle.std.proofs.Common.{ℕ, pos, List, [], ◌∷◌, ◌++◌, ◌||◌, map, flat_map, length, codes, ◌≡◌}
use Rattle.std.proofs.Common.{◌≤◌, true, All, Option, Some, None, if◌then◌else◌}
use Rattle.std.specs.Str.{bytes_eq}
use Rattle.toml.specs.Data.{Members}
use Rattle.aeth_base.specs.{Name.is_name, declared.shown.Broken.Broken, declared.shown.Shown.Shown}
use Rattle.aeth_base.specs.{Shown.shown_text, Limits.max_receiver_delay}
use Rattle.aeth_document.specs.Values.{integer_at, text_at, text_if}
use Rattle.aeth_document.specs.Walks.{first_broken, no_name, outside, size_of}
use Rattle.aeth_app.specs.Limits.{app_version, max_connections, max_cores, max_detour, max_latency}
use Rattle.aeth_app.specs.Limits.{max_per, max_uses, max_words, min_uses}
use Rattle.aeth_app.specs.Tables.{connections_in, cores_in, names_in, uses_in, wish_at}

-- A cost that is neither `hops` nor `pressure`; an absent one is `hops`.
abbrev pub no_price : Option (List ℕ) → Option Shown
no_price None = None
no_price (Some text) =
    if bytes_eq text (codes "hops") || bytes_eq text (codes "pressure") then None
    else Some (shown_text text)

-- The version, the detour, the cost, and the numbers of cores, connections and use cases.
unfoldable pub numbers : Members → List (Option Shown)
numbers root =
    outside app_version app_version (integer_at (codes "version") root)
    ∷ outside 0 max_detour (integer_at (codes "detour") root)
    ∷ no_price (text_if (codes "cost") root)
    ∷ outside 0 max_cores (pos (length (cores_in root)))
    ∷ outside 0 max_connections (pos (length (connections_in root)))
    ∷ outside min_uses max_uses (pos (length (uses_in root))) ∷ []

-- The four numbers of a wish.
unfoldable pub wish_ranges : Members → List (Option Shown)
wish_ranges wish =
    outside 0 max_words (integer_at (codes "words") wish)
    ∷ outside 1 max_per (integer_at (codes "per") wish)
    ∷ outside 1 max_latency (integer_at (codes "latency") wish)
    ∷ outside 0 max_receiver_delay (integer_at (codes "delay") wish) ∷ []

-- The numbers of a connection: those of `fwd`, then those of `back`.
abbrev pub connection_ranges : Members → List (Option Shown)
connection_ranges connection =
    wish_ranges (wish_at (codes "fwd") connection)
    ++ wish_ranges (wish_at (codes "back") connection)

-- Rule 3, OutOfRange: a number is out of its range, a text is no name, or the cost is none of the
-- two. The file's numbers are judged first, then the names of cores, connections and use cases, then
-- the numbers of each wish. The place is that in this walk, from 1, an absent cost having its place
-- too; the value is the number, the text of the cost, and of a name only that it is odd.
unfoldable pub range_checks : Members → List (Option Shown)
range_checks root =
    numbers root
    ++ map no_name (names_in (cores_in root))
    ++ map no_name (names_in (connections_in root))
    ++ map no_name (names_in (uses_in root))
    ++ flat_map connection_ranges (connections_in root)

abbrev pub out_of_range : Members → Option Broken
out_of_range root = first_broken 1 (range_checks root)

-- What holds of a wish whose numbers are in their ranges.
pub record IsWishInRange (wish : Members) : Type 0 where
  pub words : size_of (integer_at (codes "words") wish) ≤ max_words
  pub some_per : 1 ≤ size_of (integer_at (codes "per") wish)
  pub per : size_of (integer_at (codes "per") wish) ≤ max_per
  pub some_latency : 1 ≤ size_of (integer_at (codes "latency") wish)
  pub latency : size_of (integer_at (codes "latency") wish) ≤ max_latency
  pub delay : size_of (integer_at (codes "delay") wish) ≤ max_receiver_delay

-- What holds of a connection whose numbers are in their ranges.
pub record IsConnectionInRange (connection : Members) : Type 0 where
  pub fwd : IsWishInRange (wish_at (codes "fwd") connection)
  pub back : IsWishInRange (wish_at (codes "back") connection)

-- A table whose name is one.
abbrev pub IsNamed : Members → Type 0
IsNamed table = is_name (text_at (codes "name") table) ≡ true

-- What holds where no number and no name is out of its range.
pub record IsInRange (root : Members) : Type 0 where
  pub detour : size_of (integer_at (codes "detour") root) ≤ max_detour
  pub few_cores : length (cores_in root) ≤ max_cores
  pub few_connections : length (connections_in root) ≤ max_connections
  pub some_uses : min_uses ≤ length (uses_in root)
  pub few_uses : length (uses_in root) ≤ max_uses
  pub named_cores : All IsNamed (cores_in root)
  pub named_connections : All IsNamed (connections_in root)
  pub named_uses : All IsNamed (uses_in root)
  pub wishes : All IsConnectionInRange (connections_in root)
