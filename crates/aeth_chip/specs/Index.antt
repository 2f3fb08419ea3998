-- What the index of a chip's links has, by which the links of a node are found without a walk.
--
--   HasEntries, list_in, list_at, as_router, as_ni      entries by numbers, lists of lists, nodes by numbers
--   AreListed, entry_for      the links of each node of a kind at one end
--   IsPort, AreRouterLinks, AreFirstLinks      the links of routers, and their ports
--   ni_link, ni_link_with, IsNiLink, AreNiLinks      the links of network interfaces
--   AreLinkLists, count_at, crowded_in      both, and a router with too many links
--   IsEnds, IsFurther      the ends of interfaces, and further wires
--   AreEndsAndWires, IsIndex      both, and the index whole
--
-- This project's own.
use Rattle.std.proofs.Common.{◌≡◌, ◌<◌, ℕ, List, [], ◌∷◌, Option, Some, None, length, map}
use Rattle.std.proofs.Common.{slice_get, take, count_by, max, nat_le, if◌then◌else◌}
use Rattle.std.specs.declared.{vec.Vec.Vec, alloc.Global.Global}
use Rattle.aeth_base.specs.declared.ids.{LinkId.LinkId, RouterId.RouterId}
use Rattle.aeth_base.specs.declared.shown.Shown.{Shown, TheVariants.Number}
use Rattle.aeth_chip.specs.Limits.{max_ports}
use Rattle.aeth_chip.specs.Nodes.{begins_at, has_end, numbers_from, receives_on, same_node}
use Rattle.aeth_chip.specs.Nodes.{sender_of, sends_on}
use Rattle.aeth_chip.specs.Wires.{further_wires, wires_of}
use Rattle.aeth_chip.specs.declared.index.{Ends.Ends, EndsAndWires.EndsAndWires, Index.Index}
use Rattle.aeth_chip.specs.declared.lists.{ListedLinks.ListedLinks, NiLink.NiLink}
use Rattle.aeth_chip.specs.declared.lists.{NiLink.TheVariants.Missing, NiLink.TheVariants.One}
use Rattle.aeth_chip.specs.declared.lists.{NiLink.TheVariants.Several, NiLinks.NiLinks}
use Rattle.aeth_chip.specs.declared.lists.{RouterLinks.RouterLinks}
use Rattle.aeth_chip.specs.declared.node.End.{End, TheVariants.From, TheVariants.To}
use Rattle.aeth_chip.specs.declared.node.Link.{Link}
use Rattle.aeth_chip.specs.declared.node.Node.{Node, TheVariants.Router, TheVariants.Ni}

-- A list has an entry for each number below a count, and each entry what is asked at its place.
pub record HasEntries {X : Type 0} (P : ℕ → X → Type 0) (count : ℕ) (entries : List X) : Type 0 where
  pub size : length entries ≡ count
  pub each : (i : ℕ) (entry : X) → slice_get entries i ≡ Some entry → P i entry

-- The list at a place of a list of lists, empty where there is none.
abbrev pub list_in : Option (Vec LinkId Global) → List LinkId
list_in None = []
list_in (Some list) = list.items

abbrev pub list_at : List (Vec LinkId Global) → ℕ → List LinkId
list_at lists place = list_in (slice_get lists place)

-- The router and the network interface of a number.
abbrev pub as_router : ℕ → Node
as_router number = Router (record { 0 = number })

abbrev pub as_ni : ℕ → Node
as_ni number = Ni (record { 0 = number })

-- The lists have, for each of so many nodes of a kind, the links that have it at this end.
pub record AreListed (node : ℕ → Node) (end : End) (links : List Link) (count : ℕ)
    (lists : List (Vec LinkId Global)) : Type 0 where
  pub size : length lists ≡ count
  pub each : (number : ℕ) → number < count
      → map (λ (link : LinkId). link.0) (list_at lists number)
      ≡ numbers_from 0 (has_end end (node number)) links

-- What a link adds to the list of a node, where this is the node at its end.
abbrev pub entry_for : (ℕ → Node) → Node → LinkId → ℕ → List LinkId
entry_for node at link number = if same_node at (node number) then link ∷ [] else []

-- How many links before a link its router sends on: the port.
abbrev pub IsPort : List Link → ℕ → ℕ → Type 0
IsPort links l port = (router : RouterId) → sender_of links l ≡ Some router
    → port ≡ count_by (begins_at (Router router)) (take l links)

-- The links of each router, and their ports.
pub record AreRouterLinks (links : List Link) (routers : ℕ) (its : RouterLinks) : Type 0 where
  pub outgoing : AreListed as_router From links routers its.outgoing.items
  pub incoming : AreListed as_router To links routers its.incoming.items
  pub ports : HasEntries (IsPort links) (length links) its.ports.items

-- The same of the first so many links.
pub record AreFirstLinks (links : List Link) (count routers : ℕ) (its : RouterLinks) : Type 0 where
  pub outgoing : AreListed as_router From (take count links) routers its.outgoing.items
  pub incoming : AreListed as_router To (take count links) routers its.incoming.items
  pub ports : HasEntries (IsPort links) count its.ports.items

-- The one link of those with these numbers, where there is just one.
abbrev pub ni_link : List ℕ → NiLink
ni_link [] = Missing
ni_link (number ∷ []) = One (record { 0 = number })
ni_link (number ∷ next ∷ numbers) = Several

-- The same with one link more.
abbrev pub ni_link_with : LinkId → NiLink → NiLink
ni_link_with link Missing = One link
ni_link_with link (One first) = Several
ni_link_with link Several = Several

-- The one link that has a network interface at this end.
abbrev pub IsNiLink : End → List Link → ℕ → NiLink → Type 0
IsNiLink end links ni its = its ≡ ni_link (numbers_from 0 (has_end end (as_ni ni)) links)

-- The links of each network interface.
pub record AreNiLinks (links : List Link) (nis : ℕ) (its : NiLinks) : Type 0 where
  pub outgoing : HasEntries (IsNiLink From links) nis its.outgoing.items
  pub incoming : HasEntries (IsNiLink To links) nis its.incoming.items

-- Links with lists of them for so many routers and network interfaces.
pub record AreLinkLists (routers nis : ℕ) (listed : ListedLinks) : Type 0 where
  pub of_routers : AreRouterLinks listed.links.items routers listed.routers
  pub of_nis : AreNiLinks listed.links.items nis listed.nis

-- How many links a list of lists has at a place.
abbrev pub count_at : List (Vec LinkId Global) → ℕ → ℕ
count_at lists place = length (list_at lists place)

-- The greater of a router's two numbers of links in its lists, where it is too great.
abbrev pub crowded_in : RouterLinks → ℕ → Option Shown
crowded_in its router =
    let ports = max (count_at its.outgoing.items router) (count_at its.incoming.items router) in
    if nat_le ports max_ports then None else Some (Number ports)

-- The one link on which a network interface sends, and the one on which it receives.
pub record IsEnds (links : List Link) (ni : ℕ) (ends : Ends) : Type 0 where
  pub leaving : sends_on (Ni (record { 0 = ni })) links ≡ ends.leaving.0 ∷ []
  pub entering : receives_on (Ni (record { 0 = ni })) links ≡ ends.entering.0 ∷ []

-- How many further wires the links before a link have.
abbrev pub IsFurther : List Link → ℕ → ℕ → Type 0
IsFurther links l count = count ≡ further_wires (take l links)

-- The ends of so many network interfaces, and the wires of the links.
pub record AreEndsAndWires (links : List Link) (nis : ℕ) (found : EndsAndWires) : Type 0 where
  pub ends : HasEntries (IsEnds links) nis found.ends.items
  pub further : HasEntries (IsFurther links) (length links) found.further.items
  pub wires : found.wires ≡ wires_of links

-- The index of links between so many routers and network interfaces.
pub record IsIndex (links : List Link) (routers nis : ℕ) (index : Index) : Type 0 where
  pub listed : AreRouterLinks links routers index.routers
  pub found : AreEndsAndWires links nis index.found
