-- The layout of a header word: the fields, from the lowest bit up, and how many bits each takes.
-- This project's own.
use Rattle.std.proofs.Common.{ℕ}

-- The longest route has so many output ports.
abbrev pub route_ports : ℕ
route_ports = 7

-- An output port takes so many bits.
abbrev pub port_bits : ℕ
port_bits = 3

-- The route takes so many bits, from the lowest on.
abbrev pub route_bits : ℕ
route_bits = 21

-- The number of the remote queue takes so many bits.
abbrev pub queue_bits : ℕ
queue_bits = 5

-- It begins at this bit.
abbrev pub queue_shift : ℕ
queue_shift = 21

-- The credits take so many bits.
abbrev pub credits_bits : ℕ
credits_bits = 4

-- They begin at this bit.
abbrev pub credits_shift : ℕ
credits_shift = 26

-- The payload count takes so many bits.
abbrev pub count_bits : ℕ
count_bits = 2

-- It begins at this bit.
abbrev pub count_shift : ℕ
count_shift = 30
