-- The ends of a link as a file names them.
-- This project's own.
use Rattle.std.proofs.Common.{◌≡◌, ℕ, List}
use Rattle.aeth_chip.specs.Told.{node_of}
use Rattle.aeth_chip.specs.declared.links.{NamedEnd.NamedEnd, NamedEnds.NamedEnds}

-- The node is the one that the text names.
abbrev pub IsNamed : List (List ℕ) → List (List ℕ) → NamedEnd → Type 0
IsNamed routers nis named = named.node ≡ node_of routers nis named.text.now

-- So it is at both ends.
abbrev pub AreNamed : List (List ℕ) → List (List ℕ) → NamedEnds → Type 0
AreNamed routers nis ends = IsNamed routers nis ends.from × IsNamed routers nis ends.to
