-- Whether a finished path is admissible, by walking it. Paths: after UMARS (2005).
--
--   place_of, with_node, HasPlaces      sets of the places of routers
--   is_near, is_admissible      a path that a flit may take
use Rattle.std.proofs.Common.{◌≡◌, ℕ, ◌+◌, ◌%◌, ◌&&◌, nat_le, Bool, true, false, List, length}
use Rattle.std.proofs.Common.{Option, Some, None, Contains}
use Rattle.aeth_base.specs.Limits.{max_path_links}
use Rattle.aeth_base.specs.declared.ids.{LinkId.LinkId, NiId.NiId, RouterId.RouterId}
use Rattle.aeth_chip.specs.{Chip.ChipData, LeastDistance.least_distance, PathTests.comes_to}
use Rattle.aeth_chip.specs.{PathTests.is_path_between, declared.node.Link.Link}
use Rattle.aeth_chip.specs.{declared.node.Node.Node, declared.node.Node.TheVariants.Router}
use Rattle.aeth_chip.specs.{declared.node.Node.TheVariants.Ni}
use Rattle.aeth_slots.specs.SlotSet.{Slots, inserted}

-- The places of a set of routers.
abbrev pub places : ℕ
places = 64

-- The place of a router in a set, which several routers may share.
abbrev pub place_of : RouterId → ℕ
place_of router = router.0 % places

-- A set with the place of a node that is a router.
abbrev pub with_node : Node → Slots → Slots
with_node (Router router) set = inserted (place_of router) set
with_node (Ni ni) set = set

-- A set has the place of each router that a link of the path ends at.
pub record HasPlaces (links : List Link) (path : List LinkId) (set : Slots) : Type 0 where
  pub size : set.size ≡ places
  pub each : (router : RouterId) → comes_to links router path ≡ true
      → Contains set.slots (place_of router)

-- Whether a path has at most so many links more than the least number.
abbrev pub is_near : ℕ → Option ℕ → List LinkId → Bool
is_near detour None path = false
is_near detour (Some least) path = nat_le (length path) (least + detour)

-- Whether a path is one that a flit may take.
abbrev pub is_admissible : ChipData → ℕ → NiId → NiId → List LinkId → Bool
is_admissible chip detour a b path = is_path_between chip.links a b path
    && (nat_le (length path) max_path_links && is_near detour (least_distance chip a b) path)
