-- The ends of a path, and the slots that go with it.
use Rattle.std.proofs.Common.{◌≡◌, ◌∙◌, ◌-◌, ◌<◌, ◌≤◌, ◌&&◌, ℕ, suc, List, [], ◌∷◌, length, max}
use Rattle.std.proofs.Common.{filter, leb, All, Some, slice_get, sym, ap, subst, arith, get_or}
use Rattle.std.proofs.Common.{le-leb, leb-true}
use Rattle.std.proofs.lemmas.Bool.{and_from, and_parts}
use Rattle.std.proofs.lemmas.List.{Elements.Contains-get_or, Sums.sum_by-cons}
use Rattle.std.proofs.lemmas.Option.{same_Some, slice_get-get_or, slice_get_within}
use Rattle.aeth_base.specs.declared.ids.{LinkId.LinkId, NiId.NiId}
use Rattle.aeth_chip.specs.declared.node.Link.{Link}
use Rattle.aeth_chip.specs.declared.node.Node.{Node, TheVariants.Ni, TheVariants.Router}
use Rattle.aeth_chip.specs.Chip.{ChipData, IsChip, IsNode}
use Rattle.aeth_chip.specs.Joined.{end_of}
use Rattle.aeth_chip.specs.Paths.{BeginsAt, IsPath, delay_in, delay_of, path_delay, to_of}
use Rattle.aeth_chip.proofs.JoinedLaws.{end_of-ends, joined-each, joins-length}
use Rattle.aeth_slots.specs.SlotSet.{Slots, gap_of}
use Rattle.aeth_slots.specs.Choice.{choice_order, chosen, first_by, is_suitable, subsets}
use Rattle.aeth_group.proofs.ListLemmas.{same_tests}

-- All links of a path are links of the chip.
pub path-all : (links : List Link) (a b : NiId) (path : List LinkId) → IsPath links a b path
    → All (λ (link : LinkId). link.0 < length links) path
path-all links a b path is i d within =
    let (from, goes) = joined-each (BeginsAt links) (to_of links) (Ni a) path is.joins.joined
    (get_or path i d) (Contains-get_or path i d within) in
    slice_get_within links _ goes.link goes.is

-- A path has a link.
pub path-some : (links : List Link) (a b : NiId) (path : List LinkId) → IsPath links a b path
    → 1 ≤ length path
path-some links a b path is =
    omega (arith, joins-length links (Ni a) is.routers (Ni b) path is.joins)

-- The first link begins at its first interface.
pub path-first : (links : List Link) (a b : NiId) (path : List LinkId) (first : LinkId)
    → IsPath links a b path → slice_get path 0 ≡ Some first → BeginsAt links first (Ni a)
path-first links a b [] first is at = absurd (cc at)
path-first links a b (link ∷ path) first is at =
    subst (λ (l : LinkId). BeginsAt links l (Ni a)) (same_Some link first at) is.joins.joined.0

end_of-last : (to : LinkId → Node) (a : Node) (path : List LinkId) (last : LinkId)
    → slice_get path (length path - 1) ≡ Some last → end_of to a path ≡ to last
end_of-last to a [] last at = absurd (cc at)
end_of-last to a (link ∷ []) last at = ap to (same_Some link last at)
end_of-last to a (link ∷ next ∷ path) last at =
    let place : length (link ∷ next ∷ path) - 1 ≡ suc (length (next ∷ path) - 1) = omega arith in
    end_of-last to (to link) (next ∷ path) last
    (sym (ap (slice_get (link ∷ next ∷ path)) place) ∙ at)

-- The last link ends at its last.
pub path-last : (links : List Link) (a b : NiId) (path : List LinkId) (last : LinkId)
    → IsPath links a b path → slice_get path (length path - 1) ≡ Some last
    → to_of links last ≡ Ni b
path-last links a b path last is at =
    sym (end_of-last (to_of links) (Ni a) path last at)
    ∙ end_of-ends (to_of links) (Ni a) path _ (Ni b) is.joins.ends

-- A path begins at an interface of the chip.
pub from-inside : (chip : ChipData) (a b : NiId) (path : List LinkId) → IsChip chip
    → IsPath chip.links a b path → a.0 < length chip.nis
from-inside chip a b [] is is_path = absurd (omega (arith, path-some chip.links a b [] is_path))
from-inside chip a b (link ∷ path) is is_path =
    let first = is_path.joins.joined.0 in
    subst (IsNode chip.routers chip.nis) first.begins (is.links link.0 first.link first.is).from

-- Some link.
abbrev zero-link : LinkId → Link
zero-link l = record { from = Router (record { 0 = 0 }); to = Router (record { 0 = 0 }); delay = 0 }

-- A path takes at least a cycle.
pub path-delay-some : (chip : ChipData) (path : List LinkId) → IsChip chip → 1 ≤ length path
    → All (λ (link : LinkId). link.0 < length chip.links) path
    → 1 ≤ path_delay chip.links path
path-delay-some chip [] is some all = absurd (omega (arith, some))
path-delay-some chip (link ∷ path) is some all =
    let below : link.0 < length chip.links = all 0 link (omega arith) in
    let first : Link = get_or chip.links link.0 (zero-link link) in
    let at : slice_get chip.links link.0 ≡ Some first =
    slice_get-get_or chip.links link.0 (zero-link link) below in
    omega (
      arith,
      sum_by-cons (delay_of chip.links) link path,
      ap delay_in at,
      (is.links link.0 first at).takes_time,
    )

-- ---- the slots that go with a path

need-one : (need count : ℕ)
    → (leb 1 count && leb (max need 1) count) ≡ (leb 1 count && leb need count)
need-one need count =
    same_tests (leb 1 count && leb (max need 1) count) (leb 1 count && leb need count)
    (λ both. let (some, enough) = and_parts (leb 1 count) (leb (max need 1) count) both in
    let low = leb-true (max need 1) count enough in
    and_from _ _ some (le-leb need count (omega arith)))
    (λ both. let (some, enough) = and_parts (leb 1 count) (leb need count) both in
    let low = leb-true 1 count some in
    let high = leb-true need count enough in
    and_from _ _ some (le-leb (max need 1) count (omega arith)))

-- A need of no slot is one of one slot.
pub chosen-need : (free : Slots) (need gap : ℕ)
    → chosen free (max need 1) gap ≡ chosen free need gap
unfolding chosen
chosen-need free need gap =
    let same : (set : Slots) → is_suitable (max need 1) gap set ≡ is_suitable need gap set =
    λ set. ap (λ b. b && leb (gap_of set) gap) (need-one need (length set.slots)) in
    λ i. first_by choice_order (filter (λ set. same set i) (subsets free))
