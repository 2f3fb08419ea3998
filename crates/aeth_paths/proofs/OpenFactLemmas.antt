-- The test of open lists decides: links that are joined and end at distinct routers, live unless
-- there are none, and near enough to the goal.
use Rattle.std.proofs.Common.{◌≡◌, ◌∙◌, ◌+◌, ◌++◌, ◌≤◌, ◌&&◌, ◌||◌, ℕ, true, false, List, [], ◌∷◌}
use Rattle.std.proofs.Common.{Contains, Option, Some, None, length, map, not, refl, sym, ap}
use Rattle.std.proofs.Common.{slice_get, subst, inl, inr, le-leb, leb-true, ne_eqb}
use Rattle.std.proofs.lemmas.Bool.{and_from, and_parts, both_ways, false≢true, not-true, or_parts}
use Rattle.std.proofs.lemmas.Bool.{or_right}
use Rattle.std.specs.Bool.{Decides}
use Rattle.aeth_base.specs.declared.ids.{LinkId.LinkId, NiId.NiId, RouterId.RouterId}
use Rattle.aeth_base.proofs.Members.{Contains-cases, Contains-here, Contains-nil, Contains-there}
use Rattle.aeth_chip.{specs.Joined.IsJoined, specs.Joined.end_of, specs.Nodes.begins_at}
use Rattle.aeth_chip.{specs.Nodes.is_router, specs.Nodes.same_node, specs.PathTests.link_passes}
use Rattle.aeth_chip.{specs.Paths.AreDistinct, specs.Paths.BeginsAt, specs.Paths.ends_of}
use Rattle.aeth_chip.{specs.Paths.to_in, specs.Paths.to_of, specs.declared.node.Link.Link}
use Rattle.aeth_chip.{specs.declared.node.Node.Node, specs.declared.node.Node.TheVariants.Ni}
use Rattle.aeth_chip.{specs.declared.node.Node.TheVariants.Router, proofs.NodeLemmas.same_node-refl}
use Rattle.aeth_chip.{proofs.NodeLemmas.same_node-true, proofs.PathTestLemmas.passing}
use Rattle.aeth_book.specs.Book.{BookData}
use Rattle.aeth_paths.specs.{declared.request.Request.Request, Open.is_near, OpenLists.IsOpenFor}
use Rattle.aeth_paths.specs.{OpenLists.goes_on, OpenLists.is_open_list, OpenLists.leaves_from}
use Rattle.aeth_paths.specs.{Search.Field, Search.is_new, Search.passes, Task.field}
use Rattle.aeth_paths.proofs.JoinLemmas.{passes-push, router-from}

-- Links behind a list that are joined from a node on and end at distinct routers, at none of which
-- the list does.
record GoesOn (links : List Link) (to : LinkId → Node) (node : Node) (path rest : List LinkId)
    : Type 0 where
  routers : List RouterId
  joined : IsJoined (BeginsAt links) (to_of links) node rest
  ends : ends_of links rest ≡ map (λ r. Router r) routers
  distinct : AreDistinct routers
  new : (r : RouterId) → Contains routers r → passes to path (Router r) ≡ false

near-enough : (most : ℕ) (path : List LinkId) (least : Option ℕ) → is_near most path least ≡ true
    → (more : ℕ) × ((least ≡ Some more) × (length path + more ≤ most))
near-enough most path None near = absurd (false≢true near)
near-enough most path (Some more) near = (more, (refl, leb-true (length path + more) most near))

module _ (book : BookData) (prices : List ℕ) (ask : Request) (b : NiId) (most : ℕ) where
  abbrev f : Field
  f = field book prices ask b most

  -- What passes the test is joined through new routers.
  goes-joined : (node : Node) (path rest : List LinkId)
      → goes_on book.links f node path rest ≡ true → GoesOn book.links f.to node path rest
  goes-joined node path [] found = record {
    routers = [];
    joined = tt;
    ends = refl;
    distinct = tt;
    new = λ r has. Contains-nil has;
  }
  goes-joined node path (l ∷ rest) found =
      let (both, onward) =
      and_parts (leaves_from book.links node l && is_new f path (f.to l)) _ found in
      let (leaves, new) = and_parts (leaves_from book.links node l) _ both in
      let (link, is, begins) = passing (begins_at node) (slice_get book.links l.0) leaves in
      let (router, fresh) = and_parts (is_router (f.to l)) _ new in
      let (r, is_r) = router-from (f.to l) router in
      let its = goes-joined (f.to l) (path ++ l ∷ []) rest onward in
      let unpassed : passes f.to path (Router r) ≡ false =
      ap (passes f.to path) (sym is_r) ∙ not-true _ fresh in
      record {
        routers = r ∷ its.routers;
        joined = (
          record {
            link = link;
            is = is;
            begins = same_node-true link.from node begins;
            ends = sym (ap to_in is);
          },
          its.joined,
        );
        ends = λ i. is_r i ∷ its.ends i;
        distinct = (
          (λ has. both_ways _ (its.new r has) (passes-push f.to path l (Router r)
              ∙ or_right (passes f.to path (Router r)) _
              (subst (λ (n : Node). same_node n (Router r) ≡ true) (sym is_r)
              (same_node-refl (Router r))))),
          its.distinct,
        );
        new = λ q has. elim (Contains-cases r its.routers q has) [
          | inl same ↦ subst (λ (s : RouterId). passes f.to path (Router s) ≡ false) same unpassed
          | inr later ↦ (or_parts (passes f.to path (Router q)) _
              (sym (passes-push f.to path l (Router q)) ∙ its.new q later)).0
        ];
      }

  -- What is so joined passes it.
  joined-goes : (node : Node) (path rest : List LinkId) (routers : List RouterId)
      → IsJoined (BeginsAt book.links) (to_of book.links) node rest
      → ends_of book.links rest ≡ map (λ r. Router r) routers → AreDistinct routers
      → ((r : RouterId) → Contains routers r → passes f.to path (Router r) ≡ false)
      → goes_on book.links f node path rest ≡ true
  joined-goes node path [] routers joined ends distinct new = refl
  joined-goes node path (l ∷ rest) [] joined ends distinct new = absurd (cc ends)
  joined-goes node path (l ∷ rest) (r ∷ routers) (begins, joined) ends (once, distinct) new =
      let head : f.to l ≡ Router r = cc ends in
      let tail : ends_of book.links rest ≡ map (λ q. Router q) routers = cc ends in
      let leaves : leaves_from book.links node l ≡ true =
      ap (link_passes (begins_at node)) begins.is
      ∙ ap (λ (n : Node). same_node n node) begins.begins ∙ same_node-refl node in
      let fresh : is_new f path (f.to l) ≡ true =
      subst (λ (n : Node). is_new f path n ≡ true) (sym head)
      (ap not (new r (Contains-here r routers))) in
      and_from _ _ (and_from _ _ leaves fresh)
      (joined-goes (f.to l) (path ++ l ∷ []) rest routers joined tail distinct (λ q has.
      let other : same_node (f.to l) (Router q) ≡ false =
      ap (λ (n : Node). same_node n (Router q)) head
      ∙ ne_eqb r.0 q.0 (λ same. once (subst (Contains routers)
      (ap (λ n. record { 0 = n }) (sym same)) has)) in
      passes-push f.to path l (Router q)
      ∙ ap (λ c. c || same_node (f.to l) (Router q)) (new q (Contains-there r routers q has))
      ∙ other))

  -- The test decides.
  pub is_open_list-Decides : (least : Node → Option ℕ) (a : NiId) (path : List LinkId)
      → Decides (is_open_list book.links f least (Ni a) [] path)
      (IsOpenFor book.links f least a path)
  is_open_list-Decides least a [] = (
    (λ found.
        let (more, (is, near)) = near-enough f.most [] (least (Ni a)) found in
        record {
          joined = record { routers = []; joined = tt; ends = refl; distinct = tt };
          live = inl refl;
          more = more;
          least_is = is;
          near = near;
        }),
    (λ is. ap (is_near f.most []) is.least_is ∙ le-leb _ f.most is.near),
  )
  is_open_list-Decides least a (l ∷ path) = (
    (λ found.
        let (goes, opens) = and_parts (goes_on book.links f (Ni a) [] (l ∷ path)) _ found in
        let (live, close) = and_parts (f.live (l ∷ path)) _ opens in
        let (more, (is, near)) =
        near-enough f.most (l ∷ path) (least (end_of f.to (Ni a) (l ∷ path))) close in
        let its = goes-joined (Ni a) [] (l ∷ path) goes in
        record {
          joined = record {
            routers = its.routers;
            joined = its.joined;
            ends = its.ends;
            distinct = its.distinct;
          };
          live = inr live;
          more = more;
          least_is = is;
          near = near;
        }),
    (λ is. and_from _ _
        (joined-goes (Ni a) [] (l ∷ path) is.joined.routers is.joined.joined is.joined.ends
        is.joined.distinct (λ r has. refl))
        (and_from _ _ (elim is.live [
          | inl none ↦ absurd (cc none)
          | inr live ↦ live
        ])
        (ap (is_near f.most (l ∷ path)) is.least_is ∙ le-leb _ f.most is.near))),
  )
