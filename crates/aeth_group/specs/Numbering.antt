-- The numbers of classes: a test says which of the numbers below a count belong together, and the
-- classes are numbered in the order of their least members.
--
--   first_with      the least number that belongs to a number
--   is_first      whether a number is the least of its class
--   firsts_below      how many numbers below a bound are the least of their classes
--   class_of      the number of a number's class
-- This project's own.
use Rattle.std.proofs.Common.{ℕ, ◌==◌, Bool, count_by}
use Rattle.std.specs.List.{position_or_len, range_with_len}

-- The least number below a count that belongs to a number; the count where none does.
abbrev pub first_with : (ℕ → ℕ → Bool) → ℕ → ℕ → ℕ
first_with joined count u = position_or_len (joined u) (range_with_len 0 count)

-- Whether a number is the least of its class.
abbrev pub is_first : (ℕ → ℕ → Bool) → ℕ → ℕ → Bool
is_first joined count u = first_with joined count u == u

-- How many numbers below a bound are the least of their classes.
abbrev pub firsts_below : (ℕ → ℕ → Bool) → ℕ → ℕ → ℕ
firsts_below joined count bound =
    count_by (is_first joined count) (range_with_len 0 bound)

-- The number of a number's class: how many classes have a lesser least member.
abbrev pub class_of : (ℕ → ℕ → Bool) → ℕ → ℕ → ℕ
class_of joined count u = firsts_below joined count (first_with joined count u)
