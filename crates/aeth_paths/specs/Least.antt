-- What links cost at least, for a search that gives up what costs too much. This project's own.
--
--   CostsAtLeast      what walks on from a node over so many links costs so much
--   OverCosts, NoneWalks      the same of a link and what walks on over it; nothing walks on
--   PathsCost      the same of whole paths that go on from a list
--   AreLeast      a table of such costs, by routers and numbers of links
--   AreWithin      a table of costs of links, none of which is too high
--   field_to      what a search to a target reads
--   IsGoal      what a goal has of these
use Rattle.std.proofs.Common.{ℕ, ◌+◌, ◌/◌, ◌%◌, ◌≤◌, List, ◌∷◌, get_or, length, sum_by}
use Rattle.aeth_base.specs.{Limits.max_path_links, declared.ids.LinkId.LinkId}
use Rattle.aeth_chip.specs.Limits.{max_routers}
use Rattle.aeth_chip.specs.declared.node.Node.{Node, TheVariants.Router}
use Rattle.aeth_paths.specs.{Search.Field, Search.Walks, Task.field, Walk.Stands, Walk.costs_of}
use Rattle.aeth_paths.specs.{Walk.field_of, declared.least.Target.Target, declared.search.Goal.Goal}
use Rattle.aeth_paths.specs.{declared.prefix.Task.Task}

-- Links that walk on from a node to the goal, where they're at most so many, cost at least so much.
abbrev pub CostsAtLeast : Field → Node → List LinkId → ℕ → ℕ → Type 0
CostsAtLeast f node path left cost = (rest : List LinkId) → Walks f node path rest
    → length rest ≤ left → cost ≤ sum_by f.cost rest

-- A link and what walks on over it, at most so many links, cost at least so much.
abbrev pub OverCosts : Field → LinkId → ℕ → ℕ → Type 0
OverCosts f link left cost = (node : Node) (path rest : List LinkId)
    → Walks f node path (link ∷ rest) → length rest ≤ left → cost ≤ sum_by f.cost (link ∷ rest)

-- No links walk on to the goal from a node that a list of links leads to, where they're at most so many.
abbrev pub NoneWalks : Field → Node → ℕ → Type 0
NoneWalks f node left = (path rest : List LinkId) → Stands f.to node path → Walks f node path rest
    → length rest ≤ left → ⊥

-- Paths that go on from a list of links, which ends at the node, and aren't too long, cost at least
-- so much.
abbrev pub PathsCost : Field → Node → List LinkId → ℕ → Type 0
PathsCost f node path cost = (rest : List LinkId) → Walks f node path rest
    → length path + length rest ≤ f.most → cost ≤ sum_by f.cost path + sum_by f.cost rest

-- Each entry is a cost of what walks on: a row for each number of links, with one for each router.
abbrev pub AreLeast : Field → List ℕ → Type 0
AreLeast f table = (place : ℕ) (path : List LinkId)
    → CostsAtLeast f (Router (record { 0 = place % max_routers })) path (place / max_routers)
    (get_or table place 0)

-- No entry is above the cost of the link with this number.
abbrev pub AreWithin : (LinkId → ℕ) → List ℕ → Type 0
AreWithin cost table = (number : ℕ) → get_or table number 0 ≤ cost (record { 0 = number })

-- What a search to a target reads.
abbrev pub field_to : Task → Target → Field
field_to task target = field task.book.now task.prices.now task.ask target.ni target.most

-- The tables of a goal are of the task, and its paths aren't too long.
pub record IsGoal (task : Task) (goal : Goal) : Type 0 where
  pub costs : AreWithin (costs_of task) goal.costs.now
  pub least : AreLeast (field_of task goal) goal.least.now
  pub most : goal.most ≤ max_path_links
