-- The limits of chips. Those of slot tables and of the delays of links are aeth_base's.
-- This project's own.
use Rattle.std.proofs.Common.{◌+◌, ℕ}

-- In a file of version 1 a slot table has at most so many slots; in one of version 2 it may have
-- `max_slots`.
abbrev pub max_slots_of_version_1 : ℕ
max_slots_of_version_1 = 64

-- A chip has at most so many routers.
abbrev pub max_routers : ℕ
max_routers = 64

-- A chip has at most so many network interfaces.
abbrev pub max_nis : ℕ
max_nis = 64

-- A chip has at most so many routers and network interfaces together.
abbrev pub max_places : ℕ
max_places = max_routers + max_nis

-- A chip has at most so many links.
abbrev pub max_links : ℕ
max_links = 1024

-- A router sends on at most so many links, and receives on at most so many.
abbrev pub max_ports : ℕ
max_ports = 8
