-- What a search keeps true as it walks. This project's own.
--
--   IsTask, field_of      what a search reads is of one chip; what it reads for a goal
--   IsPrefix, Stands      what is known of a list of links, and of the node that it leads to
--   is_before      the order of paths, by their costs
--   path_in, priced, costs_of      a path of a best one, a path with its cost, and what links cost
--   IsLeastFrom, GainsNothing      why a list may be given up
use Rattle.std.proofs.Common.{◌≡◌, ◌<◌, ◌≤◌, ◌*◌, ◌↔◌, ◌==◌, ◌&&◌, ◌||◌, nat_lt, ℕ, Bool, true}
use Rattle.std.proofs.Common.{List, [], Option, length, map, option_map, sum_by}
use Rattle.std.specs.{Int.bit_at, Cmp.Lexicographic.slice_cmp, Ordering.is_lt, Ordering.nat_cmp}
use Rattle.aeth_base.specs.declared.ids.{LinkId.LinkId, NiId.NiId, RouterId.RouterId}
use Rattle.aeth_base.specs.Limits.{max_link_delay}
use Rattle.aeth_chip.specs.{Limits.max_routers, declared.node.Link.Link, declared.node.Node.Node}
use Rattle.aeth_chip.specs.{declared.node.Node.TheVariants.Ni}
use Rattle.aeth_chip.specs.{declared.node.Node.TheVariants.Router, Chip.IsChip, Paths.IsDistance}
use Rattle.aeth_chip.specs.{Paths.IsOnwardDistance, Paths.path_delay, Paths.to_of}
use Rattle.aeth_book.specs.{Book.IsBook, Free.free_starts}
use Rattle.aeth_paths.specs.{Candidates.link_cost, Candidates.path_cost, Costs.AreCosts}
use Rattle.aeth_paths.specs.{Limits.max_cost, Search.Field, Search.completions, Search.first_from}
use Rattle.aeth_paths.specs.{Search.passes, Task.field, declared.search.Goal.Goal}
use Rattle.aeth_paths.specs.{declared.prefix.Prefix.Prefix, declared.priced.Priced.Priced}
use Rattle.aeth_paths.specs.{declared.prefix.Task.Task}

-- The book and the least distances are those of the chip's links, and all are what they must be.
pub record IsTask (task : Task) : Type 0 where
  pub book : task.book.now.links ≡ task.chip.now.links
  pub far : task.far.now ≡ task.chip.now.links
  pub is_chip : IsChip task.chip.now
  pub is_book : IsBook task.book.now
  pub costs : AreCosts task.prices.now

-- What a search reads for a goal.
abbrev pub field_of : Task → Goal → Field
field_of task goal = field task.book.now task.prices.now task.ask goal.ni goal.most

-- The bits of the routers at which links of a list end are one.
abbrev pub ArePassed : (LinkId → Node) → List LinkId → ℕ → Type 0
ArePassed to path passed = (r : RouterId) → r.0 < max_routers
    → (bit_at passed r.0 ≡ 1) ↔ (passes to path (Router r) ≡ true)

-- What is known of a list of links: its routers, its delay, its cost, its free starts, and bounds.
pub record IsPrefix (task : Task) (prefix : Prefix) : Type 0 where
  pub passed : ArePassed (to_of task.book.now.links) prefix.path prefix.passed
  pub delay : prefix.delay ≡ path_delay task.book.now.links prefix.path
  pub cost : prefix.cost ≡ path_cost task.book.now task.prices.now task.ask.unit prefix.path
  pub free : prefix.free ≡ free_starts task.book.now task.ask.unit prefix.path
  pub short : prefix.delay ≤ max_link_delay * length prefix.path
  pub cheap : prefix.cost ≤ max_cost * length prefix.path

-- A list leads to a node: a link of it ends at the router, or the interface is its start.
abbrev pub Stands : (LinkId → Node) → Node → List LinkId → Type 0
Stands to (Router r) path = passes to path (Router r) ≡ true
Stands to (Ni n) path = path ≡ []

-- Whether a path of one cost comes before another of another cost.
abbrev pub is_before : ℕ → List LinkId → ℕ → List LinkId → Bool
is_before cost path its other = nat_lt cost its || (cost == its
    && (nat_lt (length path) (length other) || (length path == length other
    && is_lt (slice_cmp nat_cmp (map (λ (link : LinkId). link.0) path)
    (map (λ (link : LinkId). link.0) other)))))

-- The path of a best one.
abbrev pub path_in : Option Priced → Option (List LinkId)
path_in best = option_map (λ priced. priced.path) best

-- A path with its cost.
abbrev pub priced : (LinkId → ℕ) → Option (List LinkId) → Option Priced
priced cost best = option_map (λ path. record { path = path; cost = sum_by cost path }) best

-- What links cost for a task.
abbrev pub costs_of : Task → LinkId → ℕ
costs_of task = link_cost task.book.now task.prices.now task.ask.unit

-- The least number of links from a node to an interface.
abbrev pub IsLeastFrom : List Link → NiId → Node → Option ℕ → Type 0
IsLeastFrom links b (Router r) least = IsOnwardDistance links r b least
IsLeastFrom links b (Ni a) least = IsDistance links a b least

-- No path that goes on from a list of links changes what is best.
abbrev pub GainsNothing : Field → Option (List LinkId) → Node → List LinkId → Type 0
GainsNothing f best node path =
    (left : ℕ) → first_from f best (completions f left node path) ≡ best
