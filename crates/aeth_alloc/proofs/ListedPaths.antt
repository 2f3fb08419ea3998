-- An admissible path is one of the listed paths.
use Rattle.std.proofs.Common.{◌+◌, ℕ, List, Contains, length, arith}
use Rattle.std.proofs.lemmas.Option.{slice_get_within}
use Rattle.std.specs.List.{range_with_len}
use Rattle.aeth_base.proofs.{Members.Contains-flat_map, Members.Contains-map, Ranges.Contains-range}
use Rattle.aeth_base.specs.Limits.{max_path_links}
use Rattle.aeth_base.specs.declared.ids.{LinkId.LinkId, NiId.NiId}
use Rattle.aeth_chip.specs.{Chip.ChipData, LeastDistance.link_ids, LeastDistance.lists_of}
use Rattle.aeth_chip.specs.{declared.node.Link.Link, declared.node.Node.TheVariants.Ni}
use Rattle.aeth_chip.specs.{Paths.BeginsAt, Paths.IsAdmissible, Paths.to_of}
use Rattle.aeth_chip.proofs.{JoinedLaws.joined-each, LeastDistanceLemmas.Contains-lists_of}
use Rattle.aeth_alloc.specs.FirstCandidate.{paths_of}

-- An admissible path is listed.
pub path-listed : (chip : ChipData) (detour : ℕ) (a b : NiId) (path : List LinkId)
    → IsAdmissible chip.links detour a b path → Contains (paths_of chip) path
path-listed chip detour a b path is =
    let fits = is.fits in
    let links : List Link = chip.links in
    Contains-flat_map (λ count. lists_of count (link_ids links))
    (range_with_len 0 (max_path_links + 1)) (length path) path
    (Contains-range 0 (max_path_links + 1) (length path) (omega arith) (omega arith))
    (Contains-lists_of (link_ids links) path (λ l has.
    let (from, goes) =
    joined-each (BeginsAt links) (to_of links) (Ni a) path is.is_path.joins.joined l has in
    Contains-map (λ n. record { 0 = n }) (range_with_len 0 (length links)) l.0
    (let low = slice_get_within links l.0 goes.link goes.is in
    Contains-range 0 (length links) l.0 (omega arith) (omega arith))))
