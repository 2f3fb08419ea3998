-- Routes along paths: the output ports that a flit takes at the routers, one for each link behind the
-- first.
-- Source routing by output ports: after Æthereal (2005).
use Rattle.std.proofs.Common.{ℕ, ◌==◌, List, map, drop, position, option_and_then, unwrap_or}
use Rattle.aeth_base.specs.declared.ids.LinkId.{LinkId}
use Rattle.aeth_chip.specs.Nodes.{sender_of, sends_on}
use Rattle.aeth_chip.specs.declared.node.{Link.Link, Node.TheVariants.Router}
use Rattle.aeth_header.specs.Route.{route_of}

-- The port of a link: its place among the links on which its router sends; 0 where no router sends
-- on it.
abbrev pub port_of : List Link → LinkId → ℕ
port_of links link = unwrap_or (option_and_then
    (λ router. position (λ other. other == link.0) (sends_on (Router router) links))
    (sender_of links link.0)) 0

-- The route along a path, as a header has it.
abbrev pub route_along : List Link → List LinkId → ℕ
route_along links path = route_of (map (port_of links) (drop 1 path))
