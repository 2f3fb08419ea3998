-- The chip: a mesh of 4 by 4 routers, each with an interface. Router k stands in column k mod 4 and
-- row k / 4.
--
--   link_text      a link
--   interface_links, pair_links, router_links      the links of an interface, and of a router
--   mesh_text      the chip file
-- This project's own.
use Rattle.std.proofs.Common.{ℕ, ◌+◌, ◌-◌, ◌/◌, ◌%◌, ◌++◌, List, [], codes, decimal, nat_lt}
use Rattle.std.proofs.Common.{if◌then◌else◌}
use Rattle.aeth_demo.specs.Limits.{mesh_columns, mesh_routers}
use Rattle.aeth_demo.specs.Pieces.{names_text, texts_below}

-- A link from one node to another, each of a letter and a number, on a line of its own.
abbrev pub link_text : List ℕ → ℕ → List ℕ → ℕ → List ℕ
link_text from k to m =
    codes "  {from = \"" ++ from ++ decimal k ++ codes "\", to = \"" ++ to ++ decimal m
    ++ codes "\"},\n"

-- From interface k to its router, and back.
abbrev pub interface_links : ℕ → List ℕ
interface_links k = link_text (codes "n") k (codes "r") k ++ link_text (codes "r") k (codes "n") k

-- From one router to another, and back.
abbrev pub pair_links : ℕ → ℕ → List ℕ
pair_links k m = link_text (codes "r") k (codes "r") m ++ link_text (codes "r") m (codes "r") k

-- Between router k and the next one of its row, and then between it and the next one of its column.
abbrev pub router_links : ℕ → List ℕ
router_links k =
    (if nat_lt (k % mesh_columns) (mesh_columns - 1) then pair_links k (k + 1) else [])
    ++ (if nat_lt (k / mesh_columns) (mesh_columns - 1) then pair_links k (k + mesh_columns) else [])

-- The chip file: first the links of interfaces, then those between routers.
unfoldable pub mesh_text : List ℕ
mesh_text =
    codes "version = 1\nslots = 64\nrouters = [" ++ names_text (codes "r") 0 mesh_routers
    ++ codes "]\nnis = [" ++ names_text (codes "n") 0 mesh_routers
    ++ codes "]\nlink = [\n" ++ texts_below interface_links mesh_routers
    ++ texts_below router_links mesh_routers ++ codes "]\n"
