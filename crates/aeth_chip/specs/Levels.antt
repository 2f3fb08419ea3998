-- Levels of nodes before a goal, and what a search keeps of them. The nodes of a chip stand at
-- places: first the routers, then the interfaces. A set of places is a mask, with a bit for each.
--   node_place, HasPlace, HasPlaces      where the nodes and the ends of links stand
--   IsLinkStep, HasLinkStep      what a link does between places
--   HasBit, IsOrigin, AreOrigins, Enters      for each place, from where links lead there
--   LeadsTo, IsLedFrom      from where links lead to a set
--   ReachesGoal, AreLevels      steps to a goal, and the least numbers of them
--   HasLevel, HasLevelWithin      what a level is
--   MarksLevel, MarksFrom      what giving a level to a set changes
-- This project's own.
use Rattle.std.proofs.Common.{◌≡◌, ◌≢◌, ◌⊎◌, ◌+◌, ◌<◌, ◌≤◌, ◌++◌, ℕ, List, [], ◌∷◌, Option, Some}
use Rattle.std.proofs.Common.{length, slice_get, slice_index, Contains}
use Rattle.std.specs.{Int.bit_at, List.AllByRecursion}
use Rattle.aeth_chip.specs.Joined.{IsJoined}
use Rattle.aeth_chip.specs.declared.node.Link.{Link}
use Rattle.aeth_chip.specs.declared.node.Node.{Node, TheVariants.Router, TheVariants.Ni}

-- The place of a node, with so many routers.
abbrev pub node_place : ℕ → Node → ℕ
node_place routers (Router r) = r.0
node_place routers (Ni n) = routers + n.0

-- The link leads from a place to a place, one of which is a router's.
pub record IsLinkStep (routers : ℕ) (link : Link) (from to : ℕ) : Type 0 where
  pub begins : node_place routers link.from ≡ from
  pub ends : node_place routers link.to ≡ to
  pub router : (from < routers) ⊎ (to < routers)

-- Some link does so.
pub record HasLinkStep (links : List Link) (routers from to : ℕ) : Type 0 where
  pub link : Link
  pub has : Contains links link
  pub step : IsLinkStep routers link from to

-- The node is one of so many routers, or an interface whose place is below a number.
abbrev pub HasPlace : ℕ → ℕ → Node → Type 0
HasPlace routers places (Router r) = r.0 < routers
HasPlace routers places (Ni n) = routers + n.0 < places

-- Both ends of each link have places.
abbrev pub HasPlaces : List Link → ℕ → ℕ → Type 0
HasPlaces links routers places = (link : Link) → Contains links link
    → HasPlace routers places link.from × HasPlace routers places link.to

-- The places of half a mask.
abbrev pub half_places : ℕ
half_places = 64

-- A place is in the set that is this mask.
abbrev pub HasBit : ℕ → ℕ → Type 0
HasBit set place = bit_at set place ≡ 1

-- A place is in the set of a place.
abbrev pub IsOrigin : List ℕ → ℕ → ℕ → Type 0
IsOrigin origins from to = HasBit (slice_index origins to) from

-- A link was entered in sets that have, for each place, the places from which a link leads there.
pub record Enters (routers : ℕ) (link : Link) (old new : List ℕ) : Type 0 where
  pub size : length new ≡ length old
  pub only : (from to : ℕ) → IsOrigin new from to
      → IsOrigin old from to ⊎ IsLinkStep routers link from to
  pub kept : (from to : ℕ) → IsOrigin old from to → IsOrigin new from to
  pub each : (from to : ℕ) → IsLinkStep routers link from to → IsOrigin new from to

-- The set of each place has a place exactly where some link leads from that to this.
pub record AreOrigins (links : List Link) (routers places : ℕ) (origins : List ℕ) : Type 0 where
  pub size : length origins ≡ places
  pub only : (from to : ℕ) → IsOrigin origins from to → HasLinkStep links routers from to
  pub each : (from to : ℕ) → HasLinkStep links routers from to → IsOrigin origins from to

-- A link leads from the place to one of a set.
abbrev pub LeadsTo : List ℕ → ℕ → ℕ → Type 0
LeadsTo origins set from = (to : ℕ) × HasBit set to × IsOrigin origins from to

-- The set has the place exactly where links lead from it.
abbrev pub IsLedFrom : ℕ → ℕ → Type 0 → Type 0
IsLedFrom set from Leads = (HasBit set from → Leads) × (Leads → HasBit set from)

-- The goal lies just so many steps on from a place, at least one, and between them are routers.
pub record ReachesGoal (Step : ℕ → ℕ → Type 0) (routers goal steps place : ℕ) : Type 0 where
  pub between : List ℕ
  pub are_routers : AllByRecursion (λ p. p < routers) between
  pub joined : IsJoined (λ next p. Step p next) (λ p. p) place (between ++ goal ∷ [])
  pub count : steps ≡ length between + 1

-- A place has this level.
abbrev pub HasLevel : List (Option ℕ) → ℕ → ℕ → Type 0
HasLevel levels place level = slice_get levels place ≡ Some (Some level)

-- A place has a level, at most this one.
abbrev pub HasLevelWithin : List (Option ℕ) → ℕ → ℕ → Type 0
HasLevelWithin levels place level = (least : ℕ) × HasLevel levels place least × (least ≤ level)

-- The level of each place is the least number of steps to the goal.
pub record AreLevels (Step : ℕ → ℕ → Type 0) (routers goal places : ℕ) (levels : List (Option ℕ))
    : Type 0 where
  pub size : length levels ≡ places
  pub reached : (place level : ℕ) → HasLevel levels place level
      → ReachesGoal Step routers goal level place
  pub least : (place level : ℕ) → ReachesGoal Step routers goal level place
      → HasLevelWithin levels place level

-- The places of a set got this level, and no others.
pub record MarksLevel (set level : ℕ) (old new : List (Option ℕ)) : Type 0 where
  pub size : length new ≡ length old
  pub here : (place : ℕ) → HasBit set place → HasLevel new place level
  pub away : (place : ℕ) → bit_at set place ≡ 0 → slice_get new place ≡ slice_get old place

-- The same of a half of a mask, whose places begin with this one.
pub record MarksFrom (half base level : ℕ) (old new : List (Option ℕ)) : Type 0 where
  pub size : length new ≡ length old
  pub here : (i : ℕ) → HasBit half i → HasLevel new (base + i) level
  pub away : (place : ℕ) → ((i : ℕ) → HasBit half i → place ≢ base + i)
      → slice_get new place ≡ slice_get old place
