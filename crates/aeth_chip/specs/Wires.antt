-- The wires of a chip. A link of a delay has as many wires, one behind the other, and a flit is on
-- each for a cycle.
--
-- The first wire of a link has the link's number. The further ones are numbered after all links, in
-- link order, and those of a link in the order of travel.
-- This project's own.
use Rattle.std.proofs.Common.{◌≡◌, ◌≤◌, ℕ, zero, suc, ◌+◌, ◌-◌, List, Some, length, slice_get, take}
use Rattle.std.proofs.Common.{sum_by}
use Rattle.aeth_base.specs.Limits.{max_link_delay}
use Rattle.aeth_chip.specs.declared.node.Link.{Link}

-- How many wires there are.
abbrev pub wires_of : List Link → ℕ
wires_of links = sum_by (λ link. link.delay) links

-- How many wires the links have beside their first ones.
abbrev pub further_wires : List Link → ℕ
further_wires links = sum_by (λ link. link.delay - 1) links

-- The number of the wire so many places behind a link.
abbrev pub wire_at : List Link → ℕ → ℕ → ℕ
wire_at links l zero = l
wire_at links l (suc place) = length links + further_wires (take l links) + place

-- Each delay of the links is from 1 to the greatest.
abbrev pub HaveDelays : List Link → Type 0
HaveDelays links = (l : ℕ) (link : Link) → slice_get links l ≡ Some link
    → (1 ≤ link.delay) × (link.delay ≤ max_link_delay)
