-- The numbers of the generated run.
-- This project's own.
use Rattle.std.proofs.Common.{ℕ}

-- The number from which files are made is at most this.
abbrev pub max_demo_number : ℕ
max_demo_number = 1000000

-- The routers of the mesh, its interfaces, the cores, and the connections of a round.
abbrev pub mesh_routers : ℕ
mesh_routers = 16

-- The routers of a row of the mesh.
abbrev pub mesh_columns : ℕ
mesh_columns = 4

-- The connections of all four rounds.
abbrev pub demo_connections : ℕ
demo_connections = 64

-- The words.
abbrev pub demo_words : ℕ
demo_words = 10000

-- The cycles of the run.
abbrev pub demo_cycles : ℕ
demo_cycles = 22000
