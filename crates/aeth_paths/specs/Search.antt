-- What the search walks over, in its own words. This project's own.
--
--   Field      what a search to one goal reads
--   is_candidate, keep, first_from      the first of what was best and the candidates of a list
--   is_new, turn_of      what a link is for a search with the links that led to it
--   completions, Walks      the paths that go on from a list of links, as lists and as facts
use Rattle.std.proofs.Common.{◌≡◌, ◌++◌, ◌&&◌, nat_le, if◌then◌else◌, ℕ, zero, suc, Bool, false}
use Rattle.std.proofs.Common.{not, List, [], ◌∷◌, Option, None, Some, length, map, Contains}
use Rattle.std.specs.{List.flat_map, List.list_any, Ordering.is_lt}
use Rattle.aeth_base.specs.declared.ids.{LinkId.LinkId, RouterId.RouterId}
use Rattle.aeth_chip.specs.{declared.node.Node.Node, declared.node.Node.TheVariants.Router}
use Rattle.aeth_chip.specs.{Joined.IsJoined, Nodes.is_router, Nodes.same_node, Paths.AreDistinct}
use Rattle.aeth_paths.specs.declared.search.Turn.{Turn}
use Rattle.aeth_paths.specs.declared.search.Turn.TheVariants.{Away, Ends, Goes}
use Rattle.aeth_paths.specs.Candidates.{path_order}

-- What a search to one goal reads: the links that leave a node, where a link ends and what it
-- costs, whether a list of links may have suitable starts, the goal, and the most links of a path.
pub record Field : Type 0 where
  pub leaving : Node → List LinkId
  pub to : LinkId → Node
  pub cost : LinkId → ℕ
  pub live : List LinkId → Bool
  pub goal : Node
  pub most : ℕ

-- Whether a path is short enough and live.
abbrev pub is_candidate : Field → List LinkId → Bool
is_candidate f path = nat_le (length path) f.most && f.live path

-- Whether a path comes before another.
abbrev pub is_better : Field → List LinkId → List LinkId → Bool
is_better f path other = is_lt (path_order f.cost path other)

-- The first of what was best and a path.
abbrev pub better : Field → Option (List LinkId) → List LinkId → Option (List LinkId)
better f None path = Some path
better f (Some best) path = if is_better f path best then Some path else Some best

-- The first of what was best and a path, if it is a candidate.
abbrev pub keep : Field → Option (List LinkId) → List LinkId → Option (List LinkId)
keep f best path = if is_candidate f path then better f best path else best

-- The first of what was best and the candidates of a list.
abbrev pub first_from : Field → Option (List LinkId) → List (List LinkId) → Option (List LinkId)
first_from f best [] = best
first_from f best (path ∷ paths) = first_from f (keep f best path) paths

-- Whether a link of a list ends at a node.
abbrev pub passes : (LinkId → Node) → List LinkId → Node → Bool
passes to path node = list_any (λ link. same_node (to link) node) path

-- Whether a node is a router at which no link of a list ends.
abbrev pub is_new : Field → List LinkId → Node → Bool
is_new f path node = is_router node && not (passes f.to path node)

-- What a link is for a search with the links that led to it: the last one, one to a new router, or
-- neither.
abbrev pub turn_of : Field → List LinkId → LinkId → Turn
turn_of f path link =
    if same_node (f.to link) f.goal then Ends
    else (if is_new f path (f.to link) then Goes else Away)

-- One of two lists, by what a link is.
abbrev pub by_turn : Turn → List (List LinkId) → List (List LinkId) → List (List LinkId)
by_turn Away one more = []
by_turn Ends one more = one
by_turn Goes one more = more

-- The paths that go on over one link.
abbrev pub along : Field → List LinkId → (Node → List LinkId → List (List LinkId)) → LinkId
    → List (List LinkId)
along f path more link =
    by_turn (turn_of f path link) ((path ++ link ∷ []) ∷ []) (more (f.to link) (path ++ link ∷ []))

-- The paths to the goal that begin with a list of links, which ends at a node, have at most so many
-- more links, and pass only routers that are new.
unfoldable pub completions : Field → ℕ → Node → List LinkId → List (List LinkId)
completions f zero node path = []
completions f (suc left) node path = flat_map (along f path (completions f left)) (f.leaving node)

-- A list of links goes on from a list, which ends at a node, to the goal: links that are joined
-- from the node on and end at distinct new routers, and then at the goal.
pub record Walks (f : Field) (node : Node) (path rest : List LinkId) : Type 0 where
  pub routers : List RouterId
  pub joined : IsJoined (λ link from. Contains (f.leaving from) link) f.to node rest
  pub ends : map f.to rest ≡ map (λ r. Router r) routers ++ f.goal ∷ []
  pub distinct : AreDistinct routers
  pub new : (r : RouterId) → Contains routers r → passes f.to path (Router r) ≡ false
