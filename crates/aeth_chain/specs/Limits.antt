-- The numbers of the rules on chains.
-- This project's own.
use Rattle.std.proofs.Common.{ℕ, ◌+◌}
use Rattle.aeth_base.specs.Limits.{max_path_delay, max_receiver_delay, max_slots}

-- A chain has at most so many channels.
abbrev pub max_chain_items : ℕ
max_chain_items = 16

-- A core works on a word for at most so many cycles.
abbrev pub max_work : ℕ
max_work = 4096

-- A channel adds at most so many cycles to the latency of a chain: its own, the delay of its receiver, the
-- work behind it, a cycle, and a table.
abbrev pub max_leg_latency : ℕ
max_leg_latency =
    max_slots + max_path_delay + max_receiver_delay + max_work + 1 + max_slots

-- The byte between two words of an item.
abbrev pub colon : ℕ
colon = 58
