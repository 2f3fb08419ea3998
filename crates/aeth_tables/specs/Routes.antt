-- Routes along paths: the output ports that a flit takes at the routers, one for each link after the
-- first.
--
--   port_from, port_of, ports_along, route_along      ports and routes
--   IsSent      whether a router sends on a link
-- Source routing by output ports: after Æthereal (2005).
use Rattle.std.proofs.Common.{ℕ, IsSome, List, map, drop, take, count_by, Option, Some, None}
use Rattle.aeth_base.specs.declared.ids.{LinkId.LinkId, RouterId.RouterId}
use Rattle.aeth_chip.specs.Nodes.{begins_at, sender_of}
use Rattle.aeth_chip.specs.declared.node.{Link.Link, Node.TheVariants.Router}
use Rattle.aeth_header.specs.Route.{route_of}

-- The port of a link on which this router sends: how many links before it the router sends on; 0 where
-- no router sends on it.
abbrev pub port_from : List Link → LinkId → Option RouterId → ℕ
port_from links link None = 0
port_from links link (Some router) = count_by (begins_at (Router router)) (take link.0 links)

-- The port of a link at the router that sends on it.
abbrev pub port_of : List Link → LinkId → ℕ
port_of links link = port_from links link (sender_of links link.0)

-- The ports along a path: those of its links after the first, which an interface sends on.
abbrev pub ports_along : List Link → List LinkId → List ℕ
ports_along links path = map (port_of links) (drop 1 path)

-- The route along a path, as a header has it.
abbrev pub route_along : List Link → List LinkId → ℕ
route_along links path = route_of (ports_along links path)

-- A router sends on a link.
abbrev pub IsSent : List Link → LinkId → Type 0
IsSent links link = IsSome (sender_of links link.0)
