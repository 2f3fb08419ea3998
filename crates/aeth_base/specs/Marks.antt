-- Which of some numbers are marked, as a list of masks of 64 numbers each.
-- This project's own.
use Rattle.std.proofs.Common.{◌*◌, ◌/◌, ◌%◌, ◌-◌, ◌==◌, ℕ, Bool, List, filter, length, slice_index}
use Rattle.std.specs.{Int.bit_at, List.range_with_len}

-- The numbers of a mask.
abbrev pub numbers_of_mask : ℕ
numbers_of_mask = 64

-- There is room for the numbers below this one.
abbrev pub room_of : List ℕ → ℕ
room_of masks = numbers_of_mask * length masks

-- The bit of a number: 1 where it is marked.
abbrev pub bit_of : List ℕ → ℕ → ℕ
bit_of masks number =
    bit_at (slice_index masks (number / numbers_of_mask)) (number % numbers_of_mask)

-- Whether a number is marked.
abbrev pub is_marked : List ℕ → ℕ → Bool
is_marked masks number = bit_of masks number == 1

-- The marked numbers from one on, upwards.
abbrev pub marked_from : List ℕ → ℕ → List ℕ
marked_from masks from = filter (is_marked masks) (range_with_len from (room_of masks - from))
