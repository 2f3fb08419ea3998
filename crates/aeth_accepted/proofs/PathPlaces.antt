-- An admissible path has no link twice: its links end at distinct nodes.
use Rattle.std.proofs.Common.{◌≡◌, ◌∙◌, ◌++◌, ℕ, zero, suc, List, [], ◌∷◌, Some, Contains, map}
use Rattle.std.proofs.Common.{slice_get, refl, sym, ap, option_map}
use Rattle.std.proofs.lemmas.Option.{none-some, same_Some, slice_get-map}
use Rattle.aeth_base.specs.declared.ids.{LinkId.LinkId, NiId.NiId, RouterId.RouterId}
use Rattle.aeth_base.proofs.Members.{Contains-here, Contains-there}
use Rattle.aeth_chip.specs.Paths.{AreDistinct, IsAdmissible, to_of}
use Rattle.aeth_chip.specs.declared.node.Link.{Link}
use Rattle.aeth_chip.specs.declared.node.Node.{Node, TheVariants.Ni, TheVariants.Router}

-- The nodes of a path behind its first one: routers, and then an interface.
abbrev nodes_of : List RouterId → NiId → List Node
nodes_of routers b = map (λ r. Router r) routers ++ Ni b ∷ []

-- A node of one kind is none of the other, and routers are told apart.
router_is : (r s : RouterId) → Router r ≡ Router s → r ≡ s
router_is r s same = cc same

-- A router among the nodes is one of the routers.
router_among : (routers : List RouterId) (b : NiId) (k : ℕ) (r : RouterId)
    → slice_get (nodes_of routers b) k ≡ Some (Router r) → Contains routers r
router_among [] b zero r at = absurd (cc at)
router_among [] b (suc k) r at = absurd (none-some (Router r) at)
router_among (s ∷ routers) b zero r at =
    let same : s ≡ r = router_is s r (same_Some (Router s) (Router r) at) in
    rw same (Contains-here r routers)
router_among (s ∷ routers) b (suc k) r at =
    Contains-there s routers r (router_among routers b k r at)

-- Of distinct routers no node stands at two places.
nodes-once : (routers : List RouterId) (b : NiId) (i j : ℕ) (node : Node) → AreDistinct routers
    → slice_get (nodes_of routers b) i ≡ Some node → slice_get (nodes_of routers b) j ≡ Some node
    → i ≡ j
nodes-once [] b zero zero node distinct first second = refl
nodes-once [] b zero (suc j) node distinct first second = absurd (none-some node second)
nodes-once [] b (suc i) j node distinct first second = absurd (none-some node first)
nodes-once (r ∷ routers) b zero zero node distinct first second = refl
nodes-once (r ∷ routers) b zero (suc j) node distinct first second =
    absurd (distinct.0 (router_among routers b j r (second ∙ sym first)))
nodes-once (r ∷ routers) b (suc i) zero node distinct first second =
    absurd (distinct.0 (router_among routers b i r (first ∙ sym second)))
nodes-once (r ∷ routers) b (suc i) (suc j) node distinct first second =
    ap suc (nodes-once routers b i j node distinct.1 first second)

-- So no link of an admissible path does.
pub links-once : (links : List Link) (detour : ℕ) (a b : NiId) (path : List LinkId) (i j : ℕ)
    (link : LinkId) → IsAdmissible links detour a b path → slice_get path i ≡ Some link
    → slice_get path j ≡ Some link → i ≡ j
links-once links detour a b path i j link admissible first second =
    let routers = admissible.is_path.routers in
    let ends = admissible.is_path.joins.ends in
    let end_at : (k : ℕ) → slice_get path k ≡ Some link
    → slice_get (nodes_of routers b) k ≡ Some (to_of links link) =
    λ k at. sym (ap (λ (ns : List Node). slice_get ns k) ends)
    ∙ slice_get-map (to_of links) path k ∙ ap (option_map (to_of links)) at in
    nodes-once routers b i j (to_of links link) admissible.is_path.distinct (end_at i first)
    (end_at j second)
