-- Nodes of a chip, and the links that begin or end there.
--
--   same_node, begins_at, ends_at, has_end    what is one node, and where a link begins and ends
--   end_node    the node at an end of a link
--   numbers_from, sends_on, receives_on    the numbers of the links of a node
--   router_of, is_router, sender_of    the router that a node is, and that sends on a link
--   IsBelow, IsNiBelow    whether a node's router, or its interface, is one of so many
-- This project's own.
use Rattle.std.proofs.Common.{ℕ, ◌+◌, ◌<◌, ◌==◌, Bool, true, false, List, [], ◌∷◌, Option, Some}
use Rattle.std.proofs.Common.{None, option_and_then, slice_get, if◌then◌else◌}
use Rattle.aeth_base.specs.declared.ids.RouterId.{RouterId}
use Rattle.aeth_chip.specs.declared.node.End.{End, TheVariants.From, TheVariants.To}
use Rattle.aeth_chip.specs.declared.node.Link.{Link}
use Rattle.aeth_chip.specs.declared.node.Node.{Node, TheVariants.Router, TheVariants.Ni}

-- Whether two nodes are one.
abbrev pub same_node : Node → Node → Bool
same_node (Router r) (Router q) = r.0 == q.0
same_node (Router r) (Ni m) = false
same_node (Ni n) (Router q) = false
same_node (Ni n) (Ni m) = n.0 == m.0

-- Whether a link begins at a node.
abbrev pub begins_at : Node → Link → Bool
begins_at node link = same_node link.from node

-- Whether a link ends at a node.
abbrev pub ends_at : Node → Link → Bool
ends_at node link = same_node link.to node

-- Whether a node is at an end of a link.
abbrev pub has_end : End → Node → Link → Bool
has_end From = begins_at
has_end To = ends_at

-- The node at an end of a link.
abbrev pub end_node : End → Link → Node
end_node From link = link.from
end_node To link = link.to

-- The numbers of the links that pass a test, where the first link has this number.
abbrev pub numbers_from : ℕ → (Link → Bool) → List Link → List ℕ
numbers_from number test [] = []
numbers_from number test (link ∷ links) =
    if test link then number ∷ numbers_from (number + 1) test links
    else numbers_from (number + 1) test links

-- The numbers of the links on which a node sends, in file order. A router's ports are these.
abbrev pub sends_on : Node → List Link → List ℕ
sends_on node links = numbers_from 0 (begins_at node) links

-- The numbers of the links on which a node receives, in file order.
abbrev pub receives_on : Node → List Link → List ℕ
receives_on node links = numbers_from 0 (ends_at node) links

-- The router that a node is.
abbrev pub router_of : Node → Option RouterId
router_of (Router r) = Some r
router_of (Ni n) = None

-- Whether a node is a router.
abbrev pub is_router : Node → Bool
is_router (Router r) = true
is_router (Ni n) = false

-- The router that sends on a link.
abbrev pub sender_of : List Link → ℕ → Option RouterId
sender_of links link = option_and_then (λ l. router_of l.from) (slice_get links link)

-- The node is an interface, or a router whose number is below this.
abbrev pub IsBelow : ℕ → Node → Type 0
IsBelow routers (Router r) = r.0 < routers
IsBelow routers (Ni n) = Unit {0}

-- The node is a router, or an interface whose number is below this.
abbrev pub IsNiBelow : ℕ → Node → Type 0
IsNiBelow nis (Router r) = Unit {0}
IsNiBelow nis (Ni n) = n.0 < nis
