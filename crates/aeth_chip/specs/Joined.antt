-- Joined lists: each element of a list begins at the node where the one before it ends. The links
-- of a path are so joined at the nodes of a chip, and the steps of a search at its places.
--
--   IsJoined      the elements of a list are joined from a node on
--   end_of      where joined elements end
-- This project's own.
use Rattle.std.proofs.Common.{List, [], ◌∷◌}

-- The elements of a list are joined from a node on: the first begins at the node, and each further
-- one where the one before it ends. `Begins` tells what begins at a node, and `to` where it ends.
abbrev pub IsJoined : {X N : Type 0} → (X → N → Type 0) → (X → N) → N → List X → Type 0
IsJoined Begins to a [] = Unit {0}
IsJoined Begins to a (x ∷ path) = Begins x a × IsJoined Begins to (to x) path

-- The node where joined elements end that begin at a node.
abbrev pub end_of : {X N : Type 0} → (X → N) → N → List X → N
end_of to a [] = a
end_of to a (x ∷ path) = end_of to (to x) path
