-- The least number of links from a router to an interface as a function.
--
--   is_onward, has_onward      whether a list of links is a path onward, and whether some is
--   least_onward      the least number of links from a router to an interface
--   least_from      the same from a node, be it a router or an interface
-- This project's own.
use Rattle.std.proofs.Common.{ℕ, ◌+◌, ◌&&◌, Bool, List, Option, length}
use Rattle.std.specs.List.{list_any}
use Rattle.aeth_base.specs.Extremes.{least_below}
use Rattle.aeth_base.specs.declared.ids.{LinkId.LinkId, NiId.NiId, RouterId.RouterId}
use Rattle.aeth_chip.specs.declared.node.Link.{Link}
use Rattle.aeth_chip.specs.declared.node.Node.{Node, TheVariants.Router, TheVariants.Ni}
use Rattle.aeth_chip.specs.Chip.{ChipData}
use Rattle.aeth_chip.specs.LeastDistance.{below, least_distance, link_ids, lists_of}
use Rattle.aeth_chip.specs.PathTests.{follows, is_fresh}

-- Whether a list of links is a path from a router to an interface, which doesn't come back to the
-- router.
abbrev pub is_onward : List Link → RouterId → NiId → List LinkId → Bool
is_onward links r b path = is_fresh links (Router r) path && follows links b (Router r) path

-- Whether some list of so many links is one.
unfoldable pub has_onward : List Link → RouterId → NiId → ℕ → Bool
has_onward links r b count = list_any (is_onward links r b) (lists_of count (link_ids links))

-- The least number of links of a path from a router to an interface; `None` where there is none. A
-- path passes no router twice: it has at most one link more than there are routers.
unfoldable pub least_onward : ChipData → RouterId → NiId → Option ℕ
least_onward chip r b =
    below (length chip.routers + 2)
    (least_below (has_onward chip.links r b) (length chip.routers + 2))

-- The least number of links from a node to an interface.
abbrev pub least_from : ChipData → NiId → Node → Option ℕ
least_from chip b (Router r) = least_onward chip r b
least_from chip b (Ni a) = least_distance chip a b
