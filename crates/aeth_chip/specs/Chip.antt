-- What a chip is seen as, and what holds of every chip.
-- This project's own.
use Rattle.std.proofs.Common.{◌≡◌, ◌≤◌, ◌<◌, ℕ, ◌∷◌, ◌++◌, [], List, length, slice_get, count_by}
use Rattle.std.proofs.Common.{All, Some, true}
use Rattle.std.specs.{List.IsDistinct, Str.bytes_eq}
use Rattle.aeth_base.specs.Limits.{max_link_delay, max_slots}
use Rattle.aeth_base.specs.Name.{is_name}
use Rattle.aeth_base.specs.declared.ids.{LinkId.LinkId, NiId.NiId, RouterId.RouterId}
use Rattle.aeth_chip.specs.declared.node.Link.{Link}
use Rattle.aeth_chip.specs.declared.node.Node.{Node, TheVariants.Router, TheVariants.Ni}
use Rattle.aeth_chip.specs.Limits.{max_links, max_nis, max_ports, max_routers}
use Rattle.aeth_chip.specs.Nodes.{begins_at, ends_at, sends_on, receives_on}

-- A chip: the size of its slot table, the names of its routers and of its network interfaces, and
-- its links, each in file order.
pub record ChipData : Type 0 where
  pub slots : ℕ
  pub routers : List (List ℕ)
  pub nis : List (List ℕ)
  pub links : List Link

-- The node is one of the routers or of the network interfaces.
abbrev pub IsNode : List (List ℕ) → List (List ℕ) → Node → Type 0
IsNode routers nis (Router r) = r.0 < length routers
IsNode routers nis (Ni n) = n.0 < length nis

-- What holds of every link of a chip.
pub record IsLinkOf (chip : ChipData) (link : Link) : Type 0 where
  pub from : IsNode chip.routers chip.nis link.from
  pub to : IsNode chip.routers chip.nis link.to
  pub takes_time : 1 ≤ link.delay
  pub within : link.delay ≤ max_link_delay

-- A router has so few ports each way.
pub record HasFewPorts (links : List Link) (router : RouterId) : Type 0 where
  pub sends : count_by (begins_at (Router router)) links ≤ max_ports
  pub receives : count_by (ends_at (Router router)) links ≤ max_ports

-- A network interface has one link each way, and one router at the other end of both.
pub record IsSingle (links : List Link) (ni : NiId) : Type 0 where
  pub router : RouterId
  pub leaving : LinkId
  pub entering : LinkId
  pub out : Link
  pub back : Link
  pub sends : sends_on (Ni ni) links ≡ leaving.0 ∷ []
  pub receives : receives_on (Ni ni) links ≡ entering.0 ∷ []
  pub is_out : slice_get links leaving.0 ≡ Some out
  pub is_back : slice_get links entering.0 ≡ Some back
  pub to : out.to ≡ Router router
  pub from : back.from ≡ Router router

-- What holds of every chip.
pub record IsChip (chip : ChipData) : Type 0 where
  pub some_slots : 1 ≤ chip.slots
  pub slots : chip.slots ≤ max_slots
  pub some_routers : 1 ≤ length chip.routers
  pub routers : length chip.routers ≤ max_routers
  pub some_nis : 1 ≤ length chip.nis
  pub nis : length chip.nis ≤ max_nis
  pub named : All (λ name. is_name name ≡ true) (chip.routers ++ chip.nis)
  pub apart : IsDistinct bytes_eq (chip.routers ++ chip.nis)
  pub few_links : length chip.links ≤ max_links
  pub links : (l : ℕ) (link : Link) → slice_get chip.links l ≡ Some link → IsLinkOf chip link
  pub ports : (router : RouterId) → router.0 < length chip.routers
      → HasFewPorts chip.links router
  pub single : (ni : NiId) → ni.0 < length chip.nis → IsSingle chip.links ni
