-- The first candidate for a channel as a function: all candidates are listed, and the first of them
-- is taken. `IsFirst` of aeth_paths says the same as a fact, and a law joins the two. This project's
-- own.
--
--   paths_of      all lists of at most as many links as a path may have
--   found_with      a path from an interface to an interface, with its slots, if there are any
--   candidates_between, candidates      the candidates of a pair of interfaces, and of all pairs
--   first_candidate      the first of them
use Rattle.std.proofs.Common.{ℕ, ◌+◌, List, [], ◌∷◌, Option, None, Some, filter, if◌then◌else◌}
use Rattle.std.specs.{List.flat_map, List.range_with_len, Ordering.on}
use Rattle.aeth_base.specs.declared.ids.{LinkId.LinkId, NiId.NiId}
use Rattle.aeth_base.specs.Limits.{max_path_links}
use Rattle.aeth_slots.specs.{Choice.first_by, SlotSet.Slots}
use Rattle.aeth_chip.specs.{Chip.ChipData, LeastDistance.link_ids, LeastDistance.lists_of}
use Rattle.aeth_book.specs.Book.{BookData}
use Rattle.aeth_check.specs.Routes.{is_admissible}
use Rattle.aeth_paths.specs.Candidates.{link_cost, path_order, slots_of}
use Rattle.aeth_paths.specs.Open.{is_crowded}
use Rattle.aeth_paths.specs.declared.request.{Found.Found, Request.Request}

-- All lists of at most as many links of the chip as a path may have.
abbrev pub paths_of : ChipData → List (List LinkId)
paths_of chip = flat_map (λ count. lists_of count (link_ids chip.links))
    (range_with_len 0 (max_path_links + 1))

-- A path from an interface to an interface, with these slots, if there are any.
abbrev pub found_with : NiId → NiId → List LinkId → Option Slots → List Found
found_with a b path None = []
found_with a b path (Some slots) =
    record { from = a; to = b; path = path; slots = slots } ∷ []

-- The candidates between two interfaces: the admissible paths whose free starts have suitable
-- slots, each with those chosen. There is none where both are one crowded interface.
abbrev pub candidates_between : ChipData → BookData → Request → List NiId → NiId → NiId → List Found
candidates_between chip book ask crowded a b =
    if is_crowded crowded a b then []
    else flat_map (λ path. found_with a b path (slots_of book ask path))
    (filter (is_admissible chip ask.detour a b) (paths_of chip))

-- The candidates of all pairs of a sender and a receiver.
abbrev pub candidates : ChipData → BookData → Request → List NiId → List NiId → List NiId
    → List Found
candidates chip book ask from to crowded =
    flat_map (λ a. flat_map (candidates_between chip book ask crowded a) to) from

-- The first candidate, by cost, number of links and link numbers; `None` where there is none.
unfoldable pub first_candidate : ChipData → BookData → List ℕ → Request → List NiId → List NiId
    → List NiId → Option Found
first_candidate chip book prices ask from to crowded =
    first_by (on (λ (found : Found). found.path) (path_order (link_cost book prices ask.unit)))
    (candidates chip book ask from to crowded)
