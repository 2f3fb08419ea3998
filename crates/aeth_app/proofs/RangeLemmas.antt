-- What holds where no number and no name of an application file is out of its range.
use Rattle.std.proofs.Common.{◌≡◌, ◌++◌, ℕ, List, [], ◌∷◌, None, All, length, map, codes, flat_map}
use Rattle.std.proofs.lemmas.List.Elements.{All-cons, All-nil}
use Rattle.toml.specs.Data.{Members}
use Rattle.aeth_base.specs.Limits.{max_receiver_delay}
use Rattle.aeth_document.specs.Values.{integer_at, text_at}
use Rattle.aeth_document.specs.Walks.{first_broken, next_place, no_name}
use Rattle.aeth_document.proofs.WalkLemmas.{first_broken-after, first_broken-before}
use Rattle.aeth_document.proofs.WalkLemmas.{first_broken-head, first_broken-none, first_broken-tail}
use Rattle.aeth_document.proofs.WalkLemmas.{no_name-none, outside-size, outside-within}
use Rattle.aeth_app.specs.Limits.{max_connections, max_cores, max_detour, max_latency, max_per}
use Rattle.aeth_app.specs.Limits.{max_uses, max_words, min_uses}
use Rattle.aeth_app.specs.Ranges.{IsConnectionInRange, IsInRange, IsNamed, IsWishInRange}
use Rattle.aeth_app.specs.Ranges.{connection_ranges, numbers, out_of_range, range_checks}
use Rattle.aeth_app.specs.Ranges.{wish_ranges}
use Rattle.aeth_app.specs.Tables.{connections_in, cores_in, names_in, uses_in, wish_at}

-- Tables none of whose names is refused are named.
named : (place : ℕ) (tables : List Members) → first_broken place (map no_name (names_in tables)) ≡ None
    → All IsNamed tables
named place [] none = All-nil IsNamed
named place (table ∷ tables) none =
    let name = text_at (codes "name") table in
    let rest = map no_name (names_in tables) in
    All-cons IsNamed table tables
    (no_name-none name (first_broken-head place (no_name name) rest none))
    (named (next_place place) tables (first_broken-tail place (no_name name) rest none))

-- A wish none of whose numbers is refused is in its ranges.
wish_in_range : (place : ℕ) (wish : Members) → first_broken place (wish_ranges wish) ≡ None
    → IsWishInRange wish
unfolding wish_ranges
wish_in_range place wish none =
    let checks = first_broken-none place (wish_ranges wish) none in
    let words = outside-size 0 max_words (integer_at (codes "words") wish) checks.0 in
    let per = outside-size 1 max_per (integer_at (codes "per") wish) checks.1.0 in
    let latency = outside-size 1 max_latency (integer_at (codes "latency") wish) checks.1.1.0 in
    let delay = outside-size 0 max_receiver_delay (integer_at (codes "delay") wish)
    checks.1.1.1.0 in
    record {
      words = words.1;
      some_per = per.0;
      per = per.1;
      some_latency = latency.0;
      latency = latency.1;
      delay = delay.1;
    }

-- Connections none of whose numbers is refused are in their ranges.
wishes_in_range : (place : ℕ) (connections : List Members)
    → first_broken place (flat_map connection_ranges connections) ≡ None
    → All IsConnectionInRange connections
wishes_in_range place [] none = All-nil IsConnectionInRange
wishes_in_range place (connection ∷ connections) none =
    let fwd = wish_ranges (wish_at (codes "fwd") connection) in
    let back = wish_ranges (wish_at (codes "back") connection) in
    let rest = flat_map connection_ranges connections in
    let first = first_broken-before place (fwd ++ back) rest none in
    let here : IsConnectionInRange connection = record {
      fwd = wish_in_range place _ (first_broken-before place fwd back first);
      back = wish_in_range place _ (first_broken-after place place fwd back first);
    } in
    All-cons IsConnectionInRange connection connections here
    (wishes_in_range place connections (first_broken-after place place (fwd ++ back) rest none))

-- What holds where the walk finds nothing.
pub in_range : (root : Members) → out_of_range root ≡ None → IsInRange root
unfolding range_checks numbers
in_range root none =
    let front = numbers root in
    let of_cores = map no_name (names_in (cores_in root)) in
    let of_connections = map no_name (names_in (connections_in root)) in
    let of_uses = map no_name (names_in (uses_in root)) in
    let wishes = flat_map connection_ranges (connections_in root) in
    let to_uses = first_broken-before 1 (((front ++ of_cores) ++ of_connections) ++ of_uses) wishes
    none in
    let to_connections = first_broken-before 1 ((front ++ of_cores) ++ of_connections) of_uses
    to_uses in
    let to_cores = first_broken-before 1 (front ++ of_cores) of_connections to_connections in
    let checks = first_broken-none 1 front (first_broken-before 1 front of_cores to_cores) in
    let detour = outside-size 0 max_detour (integer_at (codes "detour") root) checks.1.0 in
    let few_cores = outside-within 0 max_cores (length (cores_in root)) checks.1.1.1.0 in
    let few_connections = outside-within 0 max_connections (length (connections_in root))
    checks.1.1.1.1.0 in
    let some_uses = outside-within min_uses max_uses (length (uses_in root)) checks.1.1.1.1.1.0 in
    record {
      detour = detour.1;
      few_cores = few_cores.1;
      few_connections = few_connections.1;
      some_uses = some_uses.0;
      few_uses = some_uses.1;
      named_cores = named 1 (cores_in root)
          (first_broken-after 1 1 front of_cores to_cores);
      named_connections = named 1 (connections_in root)
          (first_broken-after 1 1 (front ++ of_cores) of_connections to_connections);
      named_uses = named 1 (uses_in root)
          (first_broken-after 1 1 ((front ++ of_cores) ++ of_connections) of_uses to_uses);
      wishes = wishes_in_range 1 (connections_in root)
          (first_broken-after 1 1 (((front ++ of_cores) ++ of_connections) ++ of_uses) wishes none);
    }
