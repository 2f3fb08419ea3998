-- Laws of joined lists, of links that join a node to a node, and of open links.
use Rattle.std.proofs.Common.{◌≡◌, ◌∙◌, ◌+◌, ◌++◌, ℕ, zero, suc, List, [], ◌∷◌, Some, length, map}
use Rattle.std.proofs.Common.{slice_get, Contains, refl, sym, ap, subst, inl, inr, length-append}
use Rattle.std.proofs.lemmas.{List.length-map, Option.same_Some}
use Rattle.aeth_base.proofs.Members.{Contains-cases, Contains-nil}
use Rattle.aeth_base.specs.declared.ids.{LinkId.LinkId, RouterId.RouterId}
use Rattle.aeth_chip.specs.Joined.{IsJoined, end_of}
use Rattle.aeth_chip.specs.Paths.{BeginsAt, IsLinkFrom, Joins, to_in, to_of}
use Rattle.aeth_chip.specs.declared.node.{Link.Link, Node.Node, Node.TheVariants.Router}

-- ---- joined elements

module _ {X N : Type 0} (Begins : X → N → Type 0) (to : X → N) where
  -- Each of joined elements begins somewhere.
  pub joined-each : (a : N) (path : List X) → IsJoined Begins to a path → (x : X) → Contains path x
      → (from : N) × Begins x from
  joined-each a [] joined x has = Contains-nil has
  joined-each a (y ∷ path) joined x has = elim (Contains-cases y path x has) [
    | inl same ↦ (a, subst (λ (z : X). Begins z a) same joined.0)
    | inr later ↦ joined-each (to y) path joined.1 x later
  ]

  -- What begins as the elements do is joined as they are.
  pub joined-by : (Other : X → N → Type 0) → ((x : X) (a : N) → Begins x a → Other x a) → (a : N)
      (path : List X) → IsJoined Begins to a path → IsJoined Other to a path
  joined-by Other each a [] joined = tt
  joined-by Other each a (x ∷ path) joined =
      (each x a joined.0, joined-by Other each (to x) path joined.1)

-- Elements behind others end where they do from the end of the others.
pub end_of-append : {X N : Type 0} (to : X → N) (a : N) (front path : List X)
    → end_of to a (front ++ path) ≡ end_of to (end_of to a front) path
end_of-append to a [] path = refl
end_of-append to a (x ∷ front) path = end_of-append to (to x) front path

-- Elements end where the last of them does.
pub end_of-ends : {X N : Type 0} (to : X → N) (a : N) (path : List X) (inner : List N) (b : N)
    → map to path ≡ inner ++ b ∷ [] → end_of to a path ≡ b
end_of-ends to a [] [] b ends = absurd (cc ends)
end_of-ends to a [] (n ∷ inner) b ends = absurd (cc ends)
end_of-ends to a (x ∷ []) [] b ends = cc ends
end_of-ends to a (x ∷ y ∷ path) [] b ends = absurd (cc ends)
end_of-ends to a (x ∷ path) (n ∷ inner) b ends = end_of-ends to (to x) path inner b (cc ends)

-- ---- links that join a node to a node

-- A link ends where it leads.
pub goes-ends : (links : List Link) (l : LinkId) (a b : Node) → IsLinkFrom links l a b
    → to_of links l ≡ b
goes-ends links l a b goes = ap to_in goes.is ∙ goes.ends

-- It begins at the node from which it leads.
pub goes-begins : (links : List Link) (l : LinkId) (a b : Node) → IsLinkFrom links l a b
    → BeginsAt links l a
goes-begins links l a b goes =
    subst (IsLinkFrom links l a) (sym (goes-ends links l a b goes)) goes

-- A link of joined ones begins where the one before it ends.
pub joined-next : (links : List Link) (a : Node) (path : List LinkId) (j : ℕ) (l m : LinkId)
    → IsJoined (BeginsAt links) (to_of links) a path → slice_get path j ≡ Some l
    → slice_get path (suc j) ≡ Some m → BeginsAt links m (to_of links l)
joined-next links a [] j l m joined here there = absurd (cc here)
joined-next links a (first ∷ []) zero l m joined here there = absurd (cc there)
joined-next links a (first ∷ second ∷ path) zero l m joined here there =
    let one : first ≡ l = same_Some first l here in
    let two : second ≡ m = same_Some second m there in
    subst (λ (k : LinkId). BeginsAt links m (to_of links k)) one
    (subst (λ (k : LinkId). BeginsAt links k (to_of links first)) two joined.1.0)
joined-next links a (first ∷ path) (suc j) l m joined here there =
    joined-next links (to_of links first) path j l m joined.1 here there

module _ (links : List Link) where
  -- A link joins the nodes between which it leads.
  pub joins-one : (a b : Node) (l : LinkId) → IsLinkFrom links l a b
      → Joins links a [] b (l ∷ [])
  joins-one a b l goes = record {
    joined = (goes-begins links l a b goes, tt);
    ends = ap (λ n. n ∷ []) (goes-ends links l a b goes);
  }

  -- A link to a router goes before those that go on from there.
  pub joins-more : (a : Node) (r : RouterId) (routers : List RouterId) (b : Node) (l : LinkId)
      (path : List LinkId) → IsLinkFrom links l a (Router r) → Joins links (Router r) routers b path
      → Joins links a (r ∷ routers) b (l ∷ path)
  joins-more a r routers b l path goes joins =
      let ends = goes-ends links l a (Router r) goes in
      record {
        joined = (
          goes-begins links l a (Router r) goes,
          subst (λ (n : Node). IsJoined (BeginsAt links) (to_of links) n path) (sym ends)
              joins.joined,
        );
        ends = λ i. ends i ∷ joins.ends i;
      }

  -- No links join nothing.
  pub joins-none : {P : Type 0} (a : Node) (routers : List RouterId) (b : Node)
      → Joins links a routers b [] → P
  joins-none a [] b joins = absurd (cc joins.ends)
  joins-none a (r ∷ routers) b joins = absurd (cc joins.ends)

  -- The one link that joins nodes through no router.
  pub joins-last : (a b : Node) (l : LinkId) (path : List LinkId) → Joins links a [] b (l ∷ path)
      → (path ≡ []) × IsLinkFrom links l a b
  joins-last a b l [] joins = (refl, subst (IsLinkFrom links l a) (cc joins.ends) joins.joined.0)
  joins-last a b l (k ∷ path) joins = absurd (cc joins.ends)

  -- The first link leads to the first router, and the others go on from there.
  pub joins-first : (a : Node) (r : RouterId) (routers : List RouterId) (b : Node) (l : LinkId)
      (path : List LinkId) → Joins links a (r ∷ routers) b (l ∷ path)
      → IsLinkFrom links l a (Router r) × Joins links (Router r) routers b path
  joins-first a r routers b l path joins =
      let ends : to_of links l ≡ Router r = cc joins.ends in (
        subst (IsLinkFrom links l a) ends joins.joined.0,
        record {
          joined = subst (λ (n : Node). IsJoined (BeginsAt links) (to_of links) n path) ends
              joins.joined.1;
          ends = cc joins.ends;
        },
      )

  -- They are one more than the routers.
  pub joins-length : (a : Node) (routers : List RouterId) (b : Node) (path : List LinkId)
      → Joins links a routers b path → length path ≡ length routers + 1
  joins-length a routers b path joins =
      sym (length-map path (to_of links)) ∙ ap (λ (ns : List Node). length ns) joins.ends
      ∙ length-append (map (λ r. Router r) routers) (b ∷ [])
      ∙ ap (λ n. n + 1) (length-map routers (λ r. Router r))
