-- Open lists of links and the links that leave their ends, counted over all lists, without the
-- search. This project's own.
--
--   leaves_from, goes_on      links that are joined from a node on, and end at new routers
--   is_open_list      whether a list of links from an interface is open for a goal
--   IsOpenFor      the same as a fact
--   lists_below      all lists of fewer than so many elements
--   leaving_links      the links that leave the end of an open list
use Rattle.std.proofs.Common.{ℕ, zero, suc, ◌++◌, ◌&&◌, if◌then◌else◌, Bool, true, List, [], ◌∷◌}
use Rattle.std.proofs.Common.{◌≡◌, ◌⊎◌, ◌+◌, ◌≤◌, IsTrue, Option, Some, length, map, slice_get}
use Rattle.std.specs.List.{flat_map}
use Rattle.aeth_base.specs.declared.ids.{LinkId.LinkId, NiId.NiId}
use Rattle.aeth_chip.specs.{Joined.end_of, Nodes.begins_at, PathTests.link_passes, Paths.IsOpen}
use Rattle.aeth_chip.specs.{declared.node.Link.Link, declared.node.Node.Node}
use Rattle.aeth_chip.specs.{declared.node.Node.TheVariants.Ni}
use Rattle.aeth_paths.specs.{Open.is_open, Search.Field, Search.is_new}

-- Whether a link leaves a node.
abbrev pub leaves_from : List Link → Node → LinkId → Bool
leaves_from links node link = link_passes (begins_at node) (slice_get links link.0)

-- Whether links are joined from a node on, at which a list of links ends, and each of them ends at
-- a router at which none before it does.
abbrev pub goes_on : List Link → Field → Node → List LinkId → List LinkId → Bool
goes_on links f node path [] = true
goes_on links f node path (link ∷ rest) =
    leaves_from links node link && is_new f path (f.to link)
    && goes_on links f (f.to link) (path ++ link ∷ []) rest

-- Whether a list of links, behind those of a list that ends at a node, is open for the goal: its
-- links are joined and end at distinct routers, its free starts have suitable slots unless it is
-- empty, and with the least number of links from its end to the goal it is short enough.
abbrev pub is_open_list : List Link → Field → (Node → Option ℕ) → Node → List LinkId → List LinkId
    → Bool
is_open_list links f least node path rest =
    goes_on links f node path rest && is_open f least (end_of f.to node rest) (path ++ rest)

-- The same as a fact, of a list of links from an interface.
pub record IsOpenFor (links : List Link) (f : Field) (least : Node → Option ℕ) (a : NiId)
    (path : List LinkId) : Type 0 where
  pub joined : IsOpen links (Ni a) path
  pub live : (path ≡ []) ⊎ IsTrue (f.live path)
  pub more : ℕ
  pub least_is : least (end_of f.to (Ni a) path) ≡ Some more
  pub near : length path + more ≤ f.most

-- All lists of fewer than so many elements of a list.
abbrev pub lists_below : {X : Type 0} → ℕ → List X → List (List X)
lists_below zero xs = []
lists_below (suc count) xs =
    [] ∷ flat_map (λ x. map (λ rest. x ∷ rest) (lists_below count xs)) xs

-- The number of links that leave the end of a list, where it is open, and else 0.
abbrev pub leaving_links : List Link → Field → (Node → Option ℕ) → Node → List LinkId → List LinkId
    → ℕ
leaving_links links f least node path rest =
    if is_open_list links f least node path rest then length (f.leaving (end_of f.to node rest))
    else 0
