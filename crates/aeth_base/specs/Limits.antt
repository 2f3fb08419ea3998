-- The numbers of the rules that several crates share: what a flit carries, how long names, paths
-- and slot tables are, how long links delay, and how far runs go.
-- This project's own.
use Rattle.std.proofs.Common.{ℕ}

-- A name has at most so many bytes.
abbrev pub max_name_bytes : ℕ
max_name_bytes = 32

-- A path has at least so many links.
abbrev pub min_path_links : ℕ
min_path_links = 2

-- A path has at most so many links.
abbrev pub max_path_links : ℕ
max_path_links = 8

-- A flit carries so many words at most.
abbrev pub words_per_flit : ℕ
words_per_flit = 2

-- A flit carries so many credits at most.
abbrev pub credits_per_flit : ℕ
credits_per_flit = 15

-- A slot table has at most so many slots.
abbrev pub max_slots : ℕ
max_slots = 128

-- A flit is on a link for so many cycles at most.
abbrev pub max_link_delay : ℕ
max_link_delay = 4

-- A flit is on a path for so many cycles at most.
abbrev pub max_path_delay : ℕ
max_path_delay = 32

-- A receiver declares a delay of so many cycles at most.
abbrev pub max_receiver_delay : ℕ
max_receiver_delay = 4096

-- A receive queue has room for so many words at most.
abbrev pub max_queue_words : ℕ
max_queue_words = 65535

-- A run has at most so many cycles.
abbrev pub max_cycles : ℕ
max_cycles = 1000000
