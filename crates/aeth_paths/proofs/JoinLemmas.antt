-- What walks on to an interface are the joined links through distinct new routers.
use Rattle.std.proofs.Common.{◌≡◌, ◌⊎◌, ◌∙◌, ◌+◌, ◌++◌, ◌≤◌, ◌||◌, ℕ, Bool, true, false, List, []}
use Rattle.std.proofs.Common.{◌∷◌, length, map, Contains, Some, slice_get, sym, refl, ap, subst}
use Rattle.std.proofs.Common.{inl, inr, arith, eqb-true}
use Rattle.std.proofs.lemmas.{Bool.and_parts, Bool.both_ways, Bool.false≢true, Bool.not-true}
use Rattle.std.proofs.lemmas.{Bool.false_from_ne_true, Bool.or_from, Bool.or_parts, Bool.or_right}
use Rattle.std.proofs.lemmas.{List.Folds.list_any-append, Option.slice_get-get_or}
use Rattle.aeth_base.proofs.Lists.{map-nil}
use Rattle.aeth_base.proofs.Members.{Contains-slice_get, Contains-nil, Contains-here}
use Rattle.aeth_base.proofs.Members.{Contains-there, Contains-cases, Contains-map, map-Contains}
use Rattle.aeth_base.specs.declared.ids.{LinkId.LinkId, NiId.NiId, RouterId.RouterId}
use Rattle.aeth_chip.specs.declared.node.Link.{Link}
use Rattle.aeth_chip.specs.declared.node.Node.{Node, TheVariants.Ni, TheVariants.Router}
use Rattle.aeth_chip.specs.Nodes.{begins_at, is_router, same_node, sends_on}
use Rattle.aeth_chip.specs.Paths.{AreDistinct, BeginsAt, IsLinkFrom, IsOnward, IsPath, Joins, to_in}
use Rattle.aeth_chip.specs.Paths.{to_of}
use Rattle.aeth_chip.proofs.JoinedLaws.{joined-by, joins-last, joins-none}
use Rattle.aeth_chip.proofs.NodeLemmas.{numbers_from-at, same_node-refl, same_node-true}
use Rattle.aeth_chip.proofs.NodeLemmas.{sends_on-found}
use Rattle.aeth_book.specs.Book.{BookData}
use Rattle.aeth_paths.specs.{declared.request.Request.Request, Search.Field, Search.Walks}
use Rattle.aeth_paths.specs.{Search.is_new, Search.passes, Task.field, Task.links_from}

-- ---- the links that leave a node

-- A link that leaves a node begins there.
pub leaving-begins : (links : List Link) (link : LinkId) (node : Node)
    → Contains (links_from links node) link → BeginsAt links link node
leaving-begins links link node has =
    let (number, same, among) =
    map-Contains (λ l. record { 0 = l }) (sends_on node links) link has in
    let (k, within, at) = among in
    let found = sends_on-found links node k number
    (slice_get-get_or (sends_on node links) k number within ∙ ap Some at) in
    let is : slice_get links link.0 ≡ Some found.link =
    ap (λ (l : LinkId). slice_get links l.0) (sym same) ∙ found.at in
    record {
      link = found.link;
      is = is;
      begins = same_node-true found.link.from node found.passes;
      ends = sym (ap to_in is);
    }

-- The number of a link that begins at a node is one of those on which the node sends.
pub begins-sent : (links : List Link) (link : LinkId) (node to : Node)
    → IsLinkFrom links link node to → Contains (sends_on node links) link.0
begins-sent links link node to goes =
    let same : 0 + link.0 ≡ link.0 = omega arith in
    let at = numbers_from-at (begins_at node) 0 links link.0 goes.link goes.is
    (rw goes.begins (same_node-refl node)) in
    Contains-slice_get (sends_on node links) _ link.0 (at ∙ ap Some same)

-- A link that begins at a node leaves it.
pub begins-leaving : (links : List Link) (link : LinkId) (node : Node)
    → BeginsAt links link node → Contains (links_from links node) link
begins-leaving links link node begins =
    Contains-map (λ l. record { 0 = l }) (sends_on node links) link.0
    (begins-sent links link node (to_of links link) begins)

-- ---- routers that are passed

pub passes-push : (to : LinkId → Node) (path : List LinkId) (link : LinkId) (node : Node)
    → passes to (path ++ link ∷ []) node ≡ (passes to path node || same_node (to link) node)
passes-push to path link node =
    let one : (b : Bool) → (b || false) ≡ b = elim [ true ↦ refl | false ↦ refl ] in
    list_any-append (λ l. same_node (to l) node) path (link ∷ [])
    ∙ ap (λ b. passes to path node || b) (one (same_node (to link) node))

pub router-from : (node : Node) → is_router node ≡ true → (r : RouterId) × (node ≡ Router r)
router-from (Router r) is = (r, refl)
router-from (Ni n) is = absurd (false≢true is)

module _ (f : Field) where
  -- No links walk on to nothing.
  pub walks-none : {P : Type 0} (node : Node) (path : List LinkId) → Walks f node path [] → P
  walks-none node path walks =
      let go : (rs : List RouterId) → [] ≡ map (λ r. Router r) rs ++ f.goal ∷ [] → ⊥ =
      elim [ [] ↦ λ ends. cc ends | (r ∷ rs) ↦ λ ends. cc ends ]
      in absurd (go walks.routers walks.ends)

  -- The last link goes to the goal.
  pub walks-one : (node : Node) (path : List LinkId) (link : LinkId)
      → Contains (f.leaving node) link → same_node (f.to link) f.goal ≡ true
      → Walks f node path (link ∷ [])
  walks-one node path link has ends = record {
    routers = [];
    joined = (has, tt);
    ends = ap (λ n. n ∷ []) (same_node-true (f.to link) f.goal ends);
    distinct = tt;
    new = λ r none. Contains-nil none;
  }

  -- A link to a new router goes before what walks on from there.
  pub walks-more : (node : Node) (path : List LinkId) (link : LinkId) (rest : List LinkId)
      → Contains (f.leaving node) link → is_new f path (f.to link) ≡ true
      → Walks f (f.to link) (path ++ link ∷ []) rest → Walks f node path (link ∷ rest)
  walks-more node path link rest has new on =
      let (router, fresh) = and_parts (is_router (f.to link)) _ new in
      let (r, ends) = router-from (f.to link) router in
      let here : passes f.to (path ++ link ∷ []) (Router r) ≡ true =
      passes-push f.to path link (Router r) ∙ or_right (passes f.to path (Router r)) _
      (ap (λ n. same_node n (Router r)) ends ∙ same_node-refl (Router r)) in
      record {
        routers = r ∷ on.routers;
        joined = (has, on.joined);
        ends = λ i. ends i ∷ on.ends i;
        distinct = ((λ twice. both_ways _ (on.new r twice) here), on.distinct);
        new = λ q is_in. elim (Contains-cases r on.routers q is_in) [
          | inl same ↦
              ap (λ x. passes f.to path (Router x)) (sym same)
              ∙ ap (passes f.to path) (sym ends) ∙ not-true _ fresh
          | inr later ↦ (or_parts _ _ (sym (passes-push f.to path link (Router q))
              ∙ on.new q later)).0
        ];
      }

  -- What walks on over a new router.
  pub record More (node : Node) (path : List LinkId) (link : LinkId) (rest : List LinkId)
      : Type 0 where
    pub new : is_new f path (f.to link) ≡ true
    pub walks : Walks f (f.to link) (path ++ link ∷ []) rest

  -- The first link of what walks on leaves the node; it is the last, or goes to a new router.
  pub walks-first : (node : Node) (path : List LinkId) (link : LinkId) (rest : List LinkId)
      → Walks f node path (link ∷ rest)
      → ((rest ≡ []) × (f.to link ≡ f.goal)) ⊎ More node path link rest
  walks-first node path link rest walks =
      let go : (rs : List RouterId)
      → f.to link ∷ map f.to rest ≡ map (λ r. Router r) rs ++ f.goal ∷ [] → AreDistinct rs
      → ((r : RouterId) → Contains rs r → passes f.to path (Router r) ≡ false)
      → ((rest ≡ []) × (f.to link ≡ f.goal)) ⊎ More node path link rest =
      elim [
        | [] ↦ λ ends distinct new. inl (map-nil f.to rest (cc ends), cc ends)
        | (r ∷ rs) ↦ λ ends distinct new.
            let here : f.to link ≡ Router r = cc ends in
            let fresh : passes f.to path (Router r) ≡ false = new r (Contains-here r rs) in
            inr (record {
              new = rw (here, fresh) refl;
              walks = record {
                routers = rs;
                joined = walks.joined.1;
                ends = cc ends;
                distinct = distinct.1;
                new = λ x is_in.
                    passes-push f.to path link (Router x)
                    ∙ or_from _ _ (new x (Contains-there r rs x is_in))
                    (rw here (false_from_ne_true (same_node (Router r) (Router x)) (λ same.
                    distinct.0 (subst (Contains rs)
                    (ap (λ n. record { 0 = n }) (sym (eqb-true r.0 x.0 same))) is_in))));
              };
            })
      ]
      in go walks.routers walks.ends walks.distinct walks.new

-- ---- what a search to an interface of a chip walks over

module _ (book : BookData) (prices : List ℕ) (ask : Request) (b : NiId) (most : ℕ) where
  -- What a search to this interface reads.
  abbrev pub over : Field
  over = field book prices ask b most

  -- What walks on joins a node to the interface.
  walks-joins : (node : Node) (path rest : List LinkId) → (walks : Walks over node path rest)
      → Joins book.links node walks.routers (Ni b) rest
  walks-joins node path rest walks = record {
    joined = joined-by (λ link from. Contains (links_from book.links from) link)
        (to_of book.links) (BeginsAt book.links) (leaving-begins book.links) node rest
        walks.joined;
    ends = walks.ends;
  }

  -- What walks on from an interface, which no link joins to the other, is a path between them.
  pub route-from-walk : (a : NiId) (rest : List LinkId)
      → ((link : LinkId) → IsLinkFrom book.links link (Ni a) (Ni b) → ⊥)
      → Walks over (Ni a) [] rest → IsPath book.links a b rest
  route-from-walk a rest none walks =
      let joins = walks-joins (Ni a) [] rest walks in
      let some : (rs : List RouterId) (path : List LinkId)
      → Joins book.links (Ni a) rs (Ni b) path → 1 ≤ length rs =
      elim [
        | [] ↦ elim [
          | [] ↦ λ nothing. joins-none book.links (Ni a) [] (Ni b) nothing
          | (link ∷ path) ↦ λ direct.
              absurd (none link (joins-last book.links (Ni a) (Ni b) link path direct).1)
        ]
        | (r ∷ rs) ↦ λ path through. omega arith
      ] in
      record {
        routers = walks.routers;
        joins = joins;
        distinct = walks.distinct;
        some = some walks.routers rest joins;
      }

  -- And each such path walks on.
  pub walk-from-route : (a : NiId) (rest : List LinkId) → IsPath book.links a b rest
      → Walks over (Ni a) [] rest
  walk-from-route a rest route = record {
    routers = route.routers;
    joined = joined-by (BeginsAt book.links) (to_of book.links)
        (λ link from. Contains (links_from book.links from) link) (begins-leaving book.links)
        (Ni a) rest route.joins.joined;
    ends = route.joins.ends;
    distinct = route.distinct;
    new = λ r has. refl;
  }

  -- What walks on from a router that was passed is a path from this router.
  pub onward-from-walk : (r : RouterId) (path rest : List LinkId)
      → passes (to_of book.links) path (Router r) ≡ true → Walks over (Router r) path rest
      → IsOnward book.links r b rest
  onward-from-walk r path rest passed walks = record {
    routers = walks.routers;
    joins = walks-joins (Router r) path rest walks;
    distinct = ((λ twice. both_ways _ (walks.new r twice) passed), walks.distinct);
  }
