-- The wires along a path of links.
--
--   wires_on, wires_along      the wires of a link, and of the links of a path
--   routers_passed_along      how many routers a flit has passed by at a place
-- This project's own.
use Rattle.std.proofs.Common.{ℕ, suc, ◌-◌, nat_lt, if◌then◌else◌, List, [], ◌∷◌, flat_map, map}
use Rattle.std.specs.List.{range_with_len}
use Rattle.aeth_base.specs.declared.ids.LinkId.{LinkId}
use Rattle.aeth_chip.specs.{Paths.delay_of, Wires.wire_at, declared.node.Link.Link}

-- The wires of a link, in the order of travel.
abbrev pub wires_on : List Link → LinkId → List ℕ
wires_on links link = map (wire_at links link.0) (range_with_len 0 (delay_of links link))

-- The wires of a path's links, so that a place is an offset.
abbrev pub wires_along : List Link → List LinkId → List ℕ
wires_along links path = flat_map (wires_on links) path

-- How many links of a path come before the link of the wire at a place: a router stands behind each.
abbrev pub routers_passed_along : List Link → List LinkId → ℕ → ℕ
routers_passed_along links [] place = 0
routers_passed_along links (link ∷ path) place =
    if nat_lt place (delay_of links link) then 0
    else suc (routers_passed_along links path (place - delay_of links link))
