-- The draws of the generator: a linear congruential generator whose upper bits are taken.
--
--   generator_modulus      the numbers of the generator are below it
--   next_number, number_after      the numbers of the generator
--   part_of, drawn      what a draw gives
--   shift_of      how far the connections of a round lead
-- This project's own.
use Rattle.std.proofs.Common.{ℕ, zero, suc, ◌+◌, ◌*◌, ◌/◌, ◌%◌}

-- The numbers of the generator are below this: they have 31 bits.
abbrev pub generator_modulus : ℕ
generator_modulus = 2147483648

-- The number behind a number.
unfoldable pub next_number : ℕ → ℕ
next_number x = (1103515245 * x + 12345) % generator_modulus

-- The number after so many draws, the first one being that from which the files are made.
unfoldable pub number_after : ℕ → ℕ → ℕ
number_after n zero = n
number_after n (suc k) = next_number (number_after n k)

-- What a number gives below a bound.
unfoldable pub part_of : ℕ → ℕ → ℕ
part_of bound x = (x / 65536) % bound

-- Draw number k, from 0, below a bound.
abbrev pub drawn : ℕ → ℕ → ℕ → ℕ
drawn n k bound = part_of bound (number_after n (k + 1))

-- The first four draws: how far the connections of each of the four rounds lead.
abbrev pub shift_of : ℕ → ℕ → ℕ
shift_of n round = 1 + drawn n round 15
