-- What the summary of a chip tells of the least numbers of links between its network interfaces.
--
--   distances_to, distances_among      the least numbers for the first interfaces, pair by pair
--   distances_of      the least numbers for all ordered pairs of interfaces
--   greatest_of      the greatest number of a list
--   far_of, unreached_of      the greatest of a chip's, and how many pairs have none
-- This project's own.
use Rattle.std.proofs.Common.{ℕ, List, Option, length, map, max, fold, flat_map, filter_map}
use Rattle.std.proofs.Common.{count_by}
use Rattle.std.specs.{List.range_with_len, Option.is_none}
use Rattle.aeth_chip.specs.{Chip.ChipData, LeastDistance.least_distance}

-- The least numbers of links to an interface from each of the first so many.
abbrev pub distances_to : ChipData → ℕ → ℕ → List (Option ℕ)
distances_to chip b count =
    map (λ a. least_distance chip (record { 0 = a }) (record { 0 = b })) (range_with_len 0 count)

-- The least numbers of links to each of the first so many interfaces from each interface.
abbrev pub distances_among : ChipData → ℕ → List (Option ℕ)
distances_among chip count =
    flat_map (λ b. distances_to chip b (length chip.nis)) (range_with_len 0 count)

-- The least numbers of links for all ordered pairs of interfaces, each with itself among them.
abbrev pub distances_of : ChipData → List (Option ℕ)
distances_of chip = distances_among chip (length chip.nis)

-- The greatest of the numbers of a list that may be missing; 0 where all are.
abbrev pub greatest_of : List (Option ℕ) → ℕ
greatest_of numbers = fold max 0 (filter_map (λ number. number) numbers)

-- The greatest of the least numbers of links between interfaces; 0 where no pair has one.
unfoldable pub far_of : ChipData → ℕ
far_of chip = greatest_of (distances_of chip)

-- How many ordered pairs of interfaces have no path from the one to the other.
unfoldable pub unreached_of : ChipData → ℕ
unreached_of chip = count_by is_none (distances_of chip)
