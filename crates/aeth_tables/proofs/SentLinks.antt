-- Routers send on each link of a path but the first.
use Rattle.std.proofs.Common.{◌≡◌, ◌∙◌, ℕ, zero, suc, List, [], ◌∷◌, ◌++◌, Some, ◌≤◌, slice_get}
use Rattle.std.proofs.Common.{length, map, drop, ap, subst, arith, option_and_then}
use Rattle.std.proofs.lemmas.Option.{none-some, same_Some}
use Rattle.aeth_base.specs.Limits.{max_path_links, min_path_links}
use Rattle.aeth_base.specs.declared.ids.{LinkId.LinkId, NiId.NiId, RouterId.RouterId}
use Rattle.aeth_chip.{specs.Joined.IsJoined, specs.Nodes.router_of, specs.Nodes.sender_of}
use Rattle.aeth_chip.{specs.Paths.BeginsAt, specs.Paths.IsAdmissible, specs.Paths.Joins}
use Rattle.aeth_chip.{specs.Paths.ends_of, specs.Paths.to_of, specs.declared.node.Link.Link}
use Rattle.aeth_chip.{specs.declared.node.Node.Node, specs.declared.node.Node.TheVariants.Ni}
use Rattle.aeth_chip.{specs.declared.node.Node.TheVariants.Router, proofs.JoinedLaws.joins-length}

-- A router sends on a link that begins there.
pub sent_from : (links : List Link) (link : LinkId) (router : RouterId)
    → BeginsAt links link (Router router) → sender_of links link.0 ≡ Some router
sent_from links link router begins =
    ap (option_and_then (λ (l : Link). router_of l.from)) begins.is ∙ ap router_of begins.begins

-- Behind a link of a path, routers send on all that follow.
sent_behind : (links : List Link) (first : LinkId) (path : List LinkId) (routers : List RouterId)
    (b : NiId) → IsJoined (BeginsAt links) (to_of links) (to_of links first) path
    → to_of links first ∷ ends_of links path ≡ map (λ r. Router r) routers ++ Ni b ∷ []
    → (place : ℕ) (link : LinkId) → slice_get path place ≡ Some link
    → (router : RouterId) × (sender_of links link.0 ≡ Some router)
sent_behind links first [] routers b joined ends place link at = absurd (none-some link at)
sent_behind links first (l ∷ path) [] b joined ends place link at = absurd (cc ends)
sent_behind links first (l ∷ path) (router ∷ routers) b joined ends zero link at =
    let here : to_of links first ≡ Router router = cc ends in
    let same : l ≡ link = same_Some l link at in
    let begins : BeginsAt links link (Router router) =
    subst (λ (k : LinkId). BeginsAt links k (Router router)) same
    (subst (λ (n : Node). BeginsAt links l n) here joined.0) in
    (router, sent_from links link router begins)
sent_behind links first (l ∷ path) (router ∷ routers) b joined ends (suc place) link at =
    let rest : to_of links l ∷ ends_of links path ≡ map (λ r. Router r) routers ++ Ni b ∷ [] =
    cc ends in
    sent_behind links l path routers b joined.1 rest place link at

sent_in : (links : List Link) (a b : NiId) (routers : List RouterId) (path : List LinkId)
    → Joins links (Ni a) routers (Ni b) path → (place : ℕ) (link : LinkId)
    → slice_get (drop 1 path) place ≡ Some link
    → (router : RouterId) × (sender_of links link.0 ≡ Some router)
sent_in links a b routers [] joins place link at = absurd (none-some link at)
sent_in links a b routers (first ∷ path) joins place link at =
    sent_behind links first path routers b joins.joined.1 joins.ends place link at

-- A router sends on each link of an admissible path but the first.
pub sent_along : (links : List Link) (detour : ℕ) (a b : NiId) (path : List LinkId)
    → IsAdmissible links detour a b path → (place : ℕ) (link : LinkId)
    → slice_get (drop 1 path) place ≡ Some link
    → (router : RouterId) × (sender_of links link.0 ≡ Some router)
sent_along links detour a b path admissible place link at =
    sent_in links a b admissible.is_path.routers path admissible.is_path.joins place link at

-- The first link of an admissible path begins at its first interface.
pub begins_there : (links : List Link) (detour : ℕ) (a b : NiId) (first : LinkId)
    (path : List LinkId) → IsAdmissible links detour a b (first ∷ path)
    → BeginsAt links first (Ni a)
begins_there links detour a b first path admissible = admissible.is_path.joins.joined.0

-- An admissible path has at least two links, and few.
pub path_links : (links : List Link) (detour : ℕ) (a b : NiId) (path : List LinkId)
    → IsAdmissible links detour a b path
    → (min_path_links ≤ length path) × (length path ≤ max_path_links)
path_links links detour a b path admissible =
    let is_path = admissible.is_path in
    let longer = joins-length links (Ni a) is_path.routers (Ni b) path is_path.joins in
    (omega (arith, longer, is_path.some), admissible.fits)
