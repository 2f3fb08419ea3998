-- The numbers of the rules on applications.
-- This project's own.
use Rattle.std.proofs.Common.{ℕ}

-- The version of an application file.
abbrev pub app_version : ℕ
app_version = 1

-- The most cores.
abbrev pub max_cores : ℕ
max_cores = 256

-- The most connections.
abbrev pub max_connections : ℕ
max_connections = 512

-- The most connections of a core.
abbrev pub max_core_connections : ℕ
max_core_connections = 8

-- The fewest use cases.
abbrev pub min_uses : ℕ
min_uses = 1

-- The most use cases.
abbrev pub max_uses : ℕ
max_uses = 16

-- How many links more than the least number a path may have at most.
abbrev pub max_detour : ℕ
max_detour = 4

-- The most words that a wish has in its cycles.
abbrev pub max_words : ℕ
max_words = 2000000

-- The most cycles over which a wish counts its words.
abbrev pub max_per : ℕ
max_per = 1000000

-- The greatest latency of a wish, in cycles.
abbrev pub max_latency : ℕ
max_latency = 4096

-- The seats of a network interface.
abbrev pub seats_per_ni : ℕ
seats_per_ni = 4
