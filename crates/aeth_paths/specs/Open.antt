-- Open lists of links, and how many steps a search takes at most.
-- This project's own.
--
--   is_near, is_open      whether a list of links may lead to the goal
--   open_steps      the number of pairs of an open list and a link that leaves its end
--   each_once      a list of interfaces without those that stand in it again
--   pair_steps, allowed_steps, all_steps      those of a pair of interfaces, if it is allowed, and
--                                             of all allowed pairs
use Rattle.std.proofs.Common.{ℕ, ◌+◌, ◌++◌, ◌&&◌, ◌==◌, nat_le, if◌then◌else◌, zero, suc, Bool}
use Rattle.std.proofs.Common.{false, filter, not, List, [], ◌∷◌, Option, None, Some, length, min}
use Rattle.std.proofs.Common.{sum_by}
use Rattle.std.specs.List.{list_any}
use Rattle.aeth_base.specs.declared.ids.{LinkId.LinkId, NiId.NiId}
use Rattle.aeth_base.specs.Limits.{max_path_links}
use Rattle.aeth_chip.specs.{Chip.ChipData, LeastDistance.least_distance, LeastOnward.least_from}
use Rattle.aeth_chip.specs.{declared.node.Node.Node, declared.node.Node.TheVariants.Ni}
use Rattle.aeth_book.specs.Book.{BookData}
use Rattle.aeth_paths.specs.{declared.request.Request.Request, Search.Field, Search.is_new}
use Rattle.aeth_paths.specs.{Task.field}

-- Whether a list with so many more links is short enough.
abbrev pub is_near : ℕ → List LinkId → Option ℕ → Bool
is_near most path None = false
is_near most path (Some more) = nat_le (length path + more) most

-- Whether a list of links that ends at a node is open: it is empty or live, and with the least
-- number of links to the goal it is short enough.
abbrev pub is_open : Field → (Node → Option ℕ) → Node → List LinkId → Bool
is_open f least node [] = is_near f.most [] (least node)
is_open f least node (link ∷ path) =
    f.live (link ∷ path) && is_near f.most (link ∷ path) (least node)

-- The number of pairs of an open list and a link that leaves its end, over the lists of links that
-- begin with a list, which ends at a node, have fewer than so many more links, and pass only
-- routers that are new.
unfoldable pub open_steps : Field → (Node → Option ℕ) → ℕ → Node → List LinkId → ℕ
open_steps f least zero node path = 0
open_steps f least (suc left) node path =
    (if is_open f least node path then length (f.leaving node) else 0)
    + sum_by (λ link. if is_new f path (f.to link)
    then open_steps f least left (f.to link) (path ++ link ∷ []) else 0) (f.leaving node)

-- That number over the lists from an interface to an interface.
abbrev pub pair_steps : BookData → List ℕ → Request → (Node → Option ℕ) → NiId → NiId → Option ℕ
    → ℕ
pair_steps book prices ask least a b None = 0
pair_steps book prices ask least a b (Some distance) =
    open_steps (field book prices ask b (min (distance + ask.detour) max_path_links)) least
    max_path_links (Ni a) []

-- Whether a pair is one crowded interface.
abbrev pub is_crowded : List NiId → NiId → NiId → Bool
is_crowded crowded a b = a.0 == b.0 && list_any (λ (n : NiId). n.0 == a.0) crowded

-- The number over a pair, where it isn't one crowded interface.
abbrev pub allowed_steps : ChipData → BookData → List ℕ → Request → List NiId → NiId → NiId → ℕ
allowed_steps chip book prices ask crowded a b =
    if is_crowded crowded a b then 0
    else pair_steps book prices ask (least_from chip b) a b (least_distance chip a b)

-- A list of interfaces, each once: where it stands first.
abbrev pub each_once : List NiId → List NiId
each_once [] = []
each_once (n ∷ ns) = n ∷ filter (λ (m : NiId). not (m.0 == n.0)) (each_once ns)

-- The number over all allowed pairs of a sender and a receiver. An interface that stands twice in a
-- list counts once.
abbrev pub all_steps : ChipData → BookData → List ℕ → Request → List NiId → List NiId → List NiId
    → ℕ
all_steps chip book prices ask from to crowded =
    sum_by (λ a. sum_by (allowed_steps chip book prices ask crowded a) (each_once to))
    (each_once from)
