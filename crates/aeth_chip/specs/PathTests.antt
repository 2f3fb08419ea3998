-- Whether a list of links is a path, by walking it. Paths: after UMARS (2005).
--
--   comes_to, is_fresh      a list comes to a router, or not again to a node
--   is_there, follows, is_path_between      a list leads from a node to an interface
use Rattle.std.proofs.Common.{◌==◌, ◌&&◌, nat_le, Bool, false, not, List, [], ◌∷◌, length, Option}
use Rattle.std.proofs.Common.{Some, None, slice_get}
use Rattle.std.specs.List.{list_any}
use Rattle.aeth_base.specs.Limits.{min_path_links}
use Rattle.aeth_base.specs.declared.ids.{LinkId.LinkId, NiId.NiId, RouterId.RouterId}
use Rattle.aeth_chip.specs.Nodes.{begins_at, ends_at}
use Rattle.aeth_chip.specs.declared.node.Link.{Link}
use Rattle.aeth_chip.specs.declared.node.Node.{Node, TheVariants.Router, TheVariants.Ni}

-- Whether a link that may be missing passes a test.
abbrev pub link_passes : (Link → Bool) → Option Link → Bool
link_passes test None = false
link_passes test (Some link) = test link

-- Whether a link of the path ends at a router.
abbrev pub comes_to : List Link → RouterId → List LinkId → Bool
comes_to links router path =
    list_any (λ l. link_passes (ends_at (Router router)) (slice_get links l.0)) path

-- Whether a path goes on from a node as it may: from a router without coming back to it, and from
-- an interface not at all.
abbrev pub is_fresh : List Link → Node → List LinkId → Bool
is_fresh links (Router router) path = not (comes_to links router path)
is_fresh links (Ni ni) path = length path == 0

-- Whether a node is an interface.
abbrev pub is_there : NiId → Node → Bool
is_there b (Router router) = false
is_there b (Ni ni) = ni.0 == b.0

-- Whether a path leads from a node to an interface: each link begins where the one before ended,
-- and all nodes between are routers, none of which it comes to twice.
abbrev pub follows : List Link → NiId → Node → List LinkId → Bool
follows links b at [] = is_there b at
follows links b at (l ∷ path) = link_passes (λ link.
    begins_at at link && (is_fresh links link.to path && follows links b link.to path))
    (slice_get links l.0)

-- Whether a path leads from an interface to an interface over at least one router.
abbrev pub is_path_between : List Link → NiId → NiId → List LinkId → Bool
is_path_between links a b path = nat_le min_path_links (length path) && follows links b (Ni a) path
