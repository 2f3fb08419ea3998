-- Links that join a node to a node are steps between places, and the other way round.
use Rattle.std.proofs.Common.{◌≡◌, ◌⊎◌, ◌∙◌, ◌+◌, ◌<◌, ◌≤◌, ◌++◌, ℕ, suc, List, [], ◌∷◌, Some}
use Rattle.std.proofs.Common.{length, Contains, refl, ap, subst, inl, inr, arith}
use Rattle.std.proofs.lemmas.Option.{slice_get-get_or, slice_get_within, get_or_from_slice_get}
use Rattle.std.specs.List.{AllByRecursion}
use Rattle.aeth_base.specs.declared.ids.{LinkId.LinkId, RouterId.RouterId}
use Rattle.aeth_chip.specs.declared.node.Link.{Link}
use Rattle.aeth_chip.specs.declared.node.Node.{Node, TheVariants.Router, TheVariants.Ni}
use Rattle.aeth_chip.specs.Joined.{IsJoined}
use Rattle.aeth_chip.specs.Paths.{IsLinkFrom, Joins, to_of}
use Rattle.aeth_chip.specs.Levels.{ReachesGoal, HasPlace, HasPlaces, HasLinkStep, node_place}
use Rattle.aeth_chip.proofs.JoinedLaws.{joins-first, joins-last, joins-more, joins-none, joins-one}
use Rattle.aeth_chip.proofs.ReachLemmas.{reaches-more, reaches-one}

-- Nodes at one place are one node.
place_same : (routers places : ℕ) (a b : Node) → HasPlace routers places a
    → HasPlace routers places b → node_place routers a ≡ node_place routers b → a ≡ b
place_same routers places (Router r) (Router s) here there same =
    ap (λ n. Router (record { 0 = n })) same
place_same routers places (Router r) (Ni m) here there same = absurd (omega arith)
place_same routers places (Ni n) (Router s) here there same = absurd (omega arith)
place_same routers places (Ni n) (Ni m) here there same =
    let number : n.0 ≡ m.0 = omega arith in ap (λ k. Ni (record { 0 = k })) number

-- The link of a step is in the list.
goes_has : (links : List Link) (l : LinkId) (a b : Node) (goes : IsLinkFrom links l a b)
    → Contains links goes.link
goes_has links l a b goes = (
  l.0,
  slice_get_within links l.0 goes.link goes.is,
  get_or_from_slice_get links l.0 goes.link
      goes.link goes.is,
)

module _ (links : List Link) (routers places : ℕ) (placed : HasPlaces links routers places) where
  -- The ends of a link have places.
  from_place : (l : LinkId) (a b : Node) → IsLinkFrom links l a b → HasPlace routers places a
  from_place l a b goes =
      subst (HasPlace routers places) goes.begins (placed goes.link (goes_has links l a b goes)).0

  to_place : (l : LinkId) (a b : Node) → IsLinkFrom links l a b → HasPlace routers places b
  to_place l a b goes =
      subst (HasPlace routers places) goes.ends (placed goes.link (goes_has links l a b goes)).1

  -- A link with a router at an end is a step.
  step_from : (l : LinkId) (a b : Node) → IsLinkFrom links l a b
      → (node_place routers a < routers) ⊎ (node_place routers b < routers)
      → HasLinkStep links routers (node_place routers a) (node_place routers b)
  step_from l a b goes router = record {
    link = goes.link;
    has = goes_has links l a b goes;
    step = record {
      begins = ap (node_place routers) goes.begins;
      ends = ap (node_place routers) goes.ends;
      router = router;
    };
  }

  -- Joined links begin at a node with a place.
  pub begins_placed : (a : Node) (rs : List RouterId) (b : Node) (path : List LinkId)
      → Joins links a rs b path → HasPlace routers places a
  begins_placed a rs b [] joins = joins-none links a rs b joins
  begins_placed a rs b (l ∷ path) joins = from_place l a (to_of links l) joins.joined.0

  -- They end at a node with a place.
  pub ends_placed : (a : Node) (rs : List RouterId) (b : Node) (path : List LinkId)
      → Joins links a rs b path → HasPlace routers places b
  ends_placed a rs b [] joins = joins-none links a rs b joins
  ends_placed a [] b (l ∷ path) joins = to_place l a b (joins-last links a b l path joins).1
  ends_placed a (r ∷ rs) b (l ∷ path) joins =
      ends_placed (Router r) rs b path (joins-first links a r rs b l path joins).1

  -- They reach their end in as many steps.
  pub path_reaches : (a : Node) (rs : List RouterId) (b : Node) (path : List LinkId)
      → Joins links a rs b path → (node_place routers a < routers) ⊎ (1 ≤ length rs)
      → ReachesGoal (HasLinkStep links routers) routers (node_place routers b) (length path)
      (node_place routers a)
  path_reaches a rs b [] joins either = joins-none links a rs b joins
  path_reaches a [] b (l ∷ path) joins either =
      let (none, goes) = joins-last links a b l path joins in
      elim either [
        | inl router ↦ reaches-one (node_place routers a)
            (ap (λ ls. suc (length ls)) none) (step_from l a b goes (inl router))
        | inr some ↦ absurd (omega arith)
      ]
  path_reaches a (r ∷ rs) b (l ∷ path) joins either =
      let (goes, rest) = joins-first links a r rs b l path joins in
      let router = to_place l a (Router r) goes in
      reaches-more (node_place routers a) r.0 (step_from l a (Router r) goes (inr router)) router
      (path_reaches (Router r) rs b path rest (inl router))

  -- A step between nodes is a link.
  step_goes : (a b : Node) → HasPlace routers places a → HasPlace routers places b
      → HasLinkStep links routers (node_place routers a) (node_place routers b)
      → (l : LinkId) × IsLinkFrom links l a b
  step_goes a b here there leads =
      let (k, within, at) = leads.has in
      let ends = placed leads.link leads.has in (
        record { 0 = k },
        record {
          link = leads.link;
          is = slice_get-get_or links k leads.link within ∙ ap Some at;
          begins = place_same routers places leads.link.from a ends.0 here leads.step.begins;
          ends = place_same routers places leads.link.to b ends.1 there leads.step.ends;
        },
      )

  -- So many links that join a node to a node, through a router where they begin at no router.
  pub record Walk (a b : Node) (count : ℕ) : Type 0 where
    pub rs : List RouterId
    pub path : List LinkId
    pub joins : Joins links a rs b path
    pub length_is : length path ≡ count
    pub some : (node_place routers a < routers) ⊎ (1 ≤ length rs)

  -- A node that reaches another in so many steps has so many links to it.
  pub reaches_path : (b : Node) → HasPlace routers places b → routers ≤ node_place routers b
      → (between : List ℕ) → AllByRecursion (λ p. p < routers) between → (a : Node)
      → HasPlace routers places a
      → IsJoined (λ next p. HasLinkStep links routers p next) (λ p. p) (node_place routers a)
      (between ++ node_place routers b ∷ [])
      → Walk a b (length between + 1)
  reaches_path b there far [] low a here (leads, end) =
      let goes = step_goes a b here there leads in
      record {
        rs = [];
        path = goes.0 ∷ [];
        joins = joins-one links a b goes.0 goes.1;
        length_is = refl;
        some = elim leads.step.router [ inl router ↦ inl router | inr goal ↦ absurd (omega arith) ];
      }
  reaches_path b there far (next ∷ between) (router, low) a here (leads, rest) =
      let r : RouterId = record { 0 = next } in
      let goes = step_goes a (Router r) here router leads in
      let on = reaches_path b there far between low (Router r) router rest in
      record {
        rs = r ∷ on.rs;
        path = goes.0 ∷ on.path;
        joins = joins-more links a r on.rs b goes.0 on.path goes.1 on.joins;
        length_is = let long = on.length_is in omega arith;
        some = inr (omega arith);
      }
