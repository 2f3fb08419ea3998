-- Laws of links that join a node to a node: the shortest pass no router twice.
use Rattle.std.proofs.Common.{◌<◌, ◌≤◌, ℕ, zero, suc, List, [], ◌∷◌, length, Contains, subst, arith}
use Rattle.aeth_base.specs.declared.ids.{LinkId.LinkId, RouterId.RouterId}
use Rattle.aeth_base.proofs.Members.{Contains-nil}
use Rattle.aeth_chip.specs.declared.node.{Link.Link, Node.Node, Node.TheVariants.Router}
use Rattle.aeth_chip.specs.Paths.{IsLinkFrom, Joins, AreDistinct}
use Rattle.aeth_chip.proofs.JoinedLaws.{joins-first, joins-more, joins-none}

-- Links that join a router to a node.
record JoinsFrom (links : List Link) (r : RouterId) (b : Node) (most : ℕ) : Type 0 where
  routers : List RouterId
  path : List LinkId
  joins : Joins links (Router r) routers b path
  short : length path < most

-- From a router on the way fewer links lead on.
rest_joins : (links : List Link) (a : Node) (routers : List RouterId) (b : Node)
    (path : List LinkId) (r : RouterId) → Joins links a routers b path → Contains routers r
    → JoinsFrom links r b (length path)
rest_joins links a [] b path r joins has = Contains-nil has
rest_joins links a (s ∷ routers) b [] r joins has = joins-none links a (s ∷ routers) b joins
rest_joins links a (s ∷ routers) b (l ∷ path) r joins (zero, within, at) = record {
  routers = routers;
  path = path;
  joins = subst (λ (t : RouterId). Joins links (Router t) routers b path) at
      (joins-first links a s routers b l path joins).1;
  short = omega arith;
}
rest_joins links a (s ∷ routers) b (l ∷ path) r joins (suc k, within, at) =
    let rest = rest_joins links (Router s) routers b path r
    (joins-first links a s routers b l path joins).1 (k, omega arith, at) in
    record {
      routers = rest.routers;
      path = rest.path;
      joins = rest.joins;
      short = let short = rest.short in omega arith;
    }

-- No fewer links join a router to a node.
abbrev pub IsShortest : List Link → RouterId → Node → List LinkId → Type 0
IsShortest links r b path = (routers : List RouterId) (other : List LinkId)
    → Joins links (Router r) routers b other → length path ≤ length other

-- What follows the first link of the shortest is shortest.
shortest-rest : (links : List Link) (r s : RouterId) (b : Node) (l : LinkId)
    (path : List LinkId) → IsLinkFrom links l (Router r) (Router s)
    → IsShortest links r b (l ∷ path) → IsShortest links s b path
shortest-rest links r s b l path goes shortest routers other joins =
    let longer : suc (length path) ≤ suc (length other) =
    shortest (s ∷ routers) (l ∷ other)
    (joins-more links (Router r) s routers b l other goes joins) in
    omega arith

-- The shortest links pass no router twice.
pub shortest_distinct : (links : List Link) (r : RouterId) (routers : List RouterId) (b : Node)
    (path : List LinkId) → Joins links (Router r) routers b path → IsShortest links r b path
    → AreDistinct (r ∷ routers)
shortest_distinct links r [] b path joins shortest = ((λ has. Contains-nil has), tt)
shortest_distinct links r (s ∷ routers) b [] joins shortest =
    joins-none links (Router r) (s ∷ routers) b joins
shortest_distinct links r (s ∷ routers) b (l ∷ path) joins shortest =
    let (goes, rest) = joins-first links (Router r) s routers b l path joins in (
      (λ has.
          let again = rest_joins links (Router r) (s ∷ routers) b (l ∷ path) r joins has in
          let least = shortest again.routers again.path again.joins in
          let short = again.short in
          absurd (omega arith)),
      shortest_distinct links s routers b path rest
          (shortest-rest links r s b l path goes shortest),
    )
