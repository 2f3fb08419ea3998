-- Paths over the links of a chip: joined lists of links, least numbers of links, admissible paths,
-- offsets and delays. The links are those of the chip in file order; a path is a list of their
-- numbers.
--   IsLinkFrom, to_of, BeginsAt, ends_of      from where to where links lead
--   Joins      the links of a list join a node to a node through routers
--   AreDistinct      no router stands twice in a list
--   IsOpen      links with which a path may begin
--   IsPath, IsOnward      a path from an interface, from a router, without limits
--   IsLeast      the least number of links of the lists with some property
--   IsDistance, IsOnwardDistance      that of the paths from an interface, from a router
--   IsAdmissible      a path that a flit may take
--   delay_of, path_delay, offset      delays, and when a flit enters each link
-- Paths and slots: after UMARS (2005). Detours over the least number: this project's own.
use Rattle.std.proofs.Common.{◌≡◌, ◌+◌, ◌≤◌, ◌++◌, ℕ, List, [], ◌∷◌, Option, Some, None, length}
use Rattle.std.proofs.Common.{map, slice_get, take, sum_by, Contains}
use Rattle.aeth_base.specs.declared.ids.{LinkId.LinkId, NiId.NiId, RouterId.RouterId}
use Rattle.aeth_base.specs.Limits.{max_path_links}
use Rattle.aeth_chip.specs.Joined.{IsJoined}
use Rattle.aeth_chip.specs.declared.node.Link.{Link}
use Rattle.aeth_chip.specs.declared.node.Node.{Node, TheVariants.Router, TheVariants.Ni}

-- The link with this number leads from one node to another.
pub record IsLinkFrom (links : List Link) (l : LinkId) (from to : Node) : Type 0 where
  pub link : Link
  pub is : slice_get links l.0 ≡ Some link
  pub begins : link.from ≡ from
  pub ends : link.to ≡ to

-- The node where a link ends that may be missing; router 0 then.
abbrev pub to_in : Option Link → Node
to_in (Some link) = link.to
to_in None = Router (record { 0 = 0 })

-- The node where a link ends.
abbrev pub to_of : List Link → LinkId → Node
to_of links l = to_in (slice_get links l.0)

-- The link with this number begins at a node.
abbrev pub BeginsAt : List Link → LinkId → Node → Type 0
BeginsAt links l a = IsLinkFrom links l a (to_of links l)

-- The nodes where the links of a list end, one by one.
abbrev pub ends_of : List Link → List LinkId → List Node
ends_of links path = map (to_of links) path

-- The links of a list join a node to a node through these routers: they are joined from the one
-- node on, and end at the routers and then at the other node.
pub record Joins (links : List Link) (a : Node) (routers : List RouterId) (b : Node)
    (path : List LinkId) : Type 0 where
  pub joined : IsJoined (BeginsAt links) (to_of links) a path
  pub ends : ends_of links path ≡ map (λ r. Router r) routers ++ b ∷ []

-- No router stands twice in the list.
abbrev pub AreDistinct : List RouterId → Type 0
AreDistinct [] = Unit {0}
AreDistinct (r ∷ routers) = (Contains routers r → ⊥) × AreDistinct routers

-- Links that are joined from a node on and end at distinct routers. Paths begin with such links.
pub record IsOpen (links : List Link) (a : Node) (path : List LinkId) : Type 0 where
  pub routers : List RouterId
  pub joined : IsJoined (BeginsAt links) (to_of links) a path
  pub ends : ends_of links path ≡ map (λ r. Router r) routers
  pub distinct : AreDistinct routers

-- A path from an interface to an interface: joined links, whose inner nodes are distinct routers,
-- at least one. From an interface to itself, such a path leads to a router and back.
pub record IsPath (links : List Link) (a b : NiId) (path : List LinkId) : Type 0 where
  pub routers : List RouterId
  pub joins : Joins links (Ni a) routers (Ni b) path
  pub distinct : AreDistinct routers
  pub some : 1 ≤ length routers

-- A path from a router to an interface: joined links, whose nodes before the interface are distinct
-- routers.
pub record IsOnward (links : List Link) (r : RouterId) (b : NiId) (path : List LinkId)
    : Type 0 where
  pub routers : List RouterId
  pub joins : Joins links (Router r) routers (Ni b) path
  pub distinct : AreDistinct (r ∷ routers)

-- A list with the property has so many links, and none has fewer.
pub record HasLeast (P : List LinkId → Type 0) (least : ℕ) : Type 0 where
  pub path : List LinkId
  pub has : P path
  pub length_is : length path ≡ least
  pub none_shorter : (other : List LinkId) → P other → least ≤ length other

-- The least number of links of the lists with a property, or `None` where no list has it.
abbrev pub IsLeast : (List LinkId → Type 0) → Option ℕ → Type 0
IsLeast P (Some least) = HasLeast P least
IsLeast P None = (path : List LinkId) → P path → ⊥

-- The least number of links from an interface to an interface. With two cores on one interface,
-- that from the interface to itself: 2, where its router leads back.
abbrev pub IsDistance : List Link → NiId → NiId → Option ℕ → Type 0
IsDistance links a b least = IsLeast (IsPath links a b) least

-- The least number of links from a router to an interface.
abbrev pub IsOnwardDistance : List Link → RouterId → NiId → Option ℕ → Type 0
IsOnwardDistance links r b least = IsLeast (IsOnward links r b) least

-- A path that a flit may take: through at most 7 routers, so over at most 8 links, and over at most
-- so many links more than the least number.
pub record IsAdmissible (links : List Link) (detour : ℕ) (a b : NiId) (path : List LinkId)
    : Type 0 where
  pub is_path : IsPath links a b path
  pub fits : length path ≤ max_path_links
  pub least : ℕ
  pub distance : IsDistance links a b (Some least)
  pub near : length path ≤ least + detour

-- The delay of a link that may be missing.
abbrev pub delay_in : Option Link → ℕ
delay_in (Some link) = link.delay
delay_in None = 0

-- The delay of a link, or 0 where no link has the number.
abbrev pub delay_of : List Link → LinkId → ℕ
delay_of links l = delay_in (slice_get links l.0)

-- The sum of the delays of a path's links.
abbrev pub path_delay : List Link → List LinkId → ℕ
path_delay links path = sum_by (delay_of links) path

-- The offset of a place of a path: the sum of the delays of the links before it.
abbrev pub offset : List Link → List LinkId → ℕ → ℕ
offset links path i = path_delay links (take i path)
