-- The test of paths decides whether a list of links is one.
use Rattle.std.proofs.Common.{◌≡◌, ◌∙◌, Bool, true, not, List, [], ◌∷◌, Option, Some, None}
use Rattle.std.proofs.Common.{Contains, length, get_or, slice_get, refl, sym, ap, arith, subst}
use Rattle.std.proofs.Common.{◌==◌, eq-eqb, eqb-true, le-leb, leb-true}
use Rattle.std.proofs.lemmas.Bool.{and_from, and_parts, both_ways, false≢true, false_from_ne_true}
use Rattle.std.proofs.lemmas.Bool.{not-true, not_from_false}
use Rattle.std.proofs.lemmas.List.Folds.{Any-from_list_any, list_any-from_Any}
use Rattle.std.specs.{Bool.Decides, List.list_any}
use Rattle.aeth_base.specs.Limits.{min_path_links}
use Rattle.aeth_base.specs.declared.ids.{LinkId.LinkId, NiId.NiId, RouterId.RouterId}
use Rattle.aeth_chip.specs.Nodes.{begins_at}
use Rattle.aeth_chip.specs.PathTests.{comes_to, follows, is_fresh, is_path_between, is_there}
use Rattle.aeth_chip.specs.PathTests.{link_passes}
use Rattle.aeth_chip.specs.Paths.{AreDistinct, IsLinkFrom, IsPath, Joins}
use Rattle.aeth_chip.specs.declared.node.Link.{Link}
use Rattle.aeth_chip.specs.declared.node.Node.{Node, TheVariants.Router, TheVariants.Ni}
use Rattle.aeth_chip.proofs.JoinedLaws.{joins-first, joins-last, joins-length, joins-more}
use Rattle.aeth_chip.proofs.JoinedLaws.{joins-none, joins-one}
use Rattle.aeth_chip.proofs.NodeLemmas.{same_node-refl, same_node-true}

-- A link that passes is there.
pub passing : (test : Link → Bool) (found : Option Link) → link_passes test found ≡ true
    → (link : Link) × (found ≡ Some link) × (test link ≡ true)
passing test None passes = absurd (false≢true passes)
passing test (Some link) passes = (link, refl, passes)

-- Whether joined links come to a router, by the routers that they pass.
pub comes-is : (links : List Link) (at : Node) (routers : List RouterId) (b : NiId)
    (path : List LinkId) → Joins links at routers (Ni b) path → (r : RouterId)
    → comes_to links r path ≡ list_any (λ q. q.0 == r.0) routers
comes-is links at routers b [] joins r = joins-none links at routers (Ni b) joins
comes-is links at [] b (l ∷ path) joins r =
    let (none, goes) = joins-last links at (Ni b) l path joins in
    rw (none, goes.is, goes.ends) refl
comes-is links at (q ∷ routers) b (l ∷ path) joins r =
    let (goes, rest) = joins-first links at q routers (Ni b) l path joins in
    rw (goes.is, goes.ends, comes-is links (Router q) routers b path rest r) refl

-- They don't come to a router that is none of these, and only then.
pub fresh-Decides : (routers : List RouterId) (r : RouterId)
    → Decides (not (list_any (λ q. q.0 == r.0) routers)) (Contains routers r → ⊥)
fresh-Decides routers r = (
  (λ fresh (k, within, at). both_ways (list_any (λ q. q.0 == r.0) routers) (not-true _ fresh)
      (list_any-from_Any (λ q. q.0 == r.0) routers (k, r, within, at, eq-eqb r.0 r.0 refl))),
  (λ none. not_from_false _ (false_from_ne_true _ (λ found.
      let (k, q, within, at, same) = Any-from_list_any (λ q. q.0 == r.0) routers found in
      let router : q ≡ r = ap (λ n. record { 0 = n }) (eqb-true q.0 r.0 same) in
      none (k, within, subst (λ (s : RouterId). get_or routers k s ≡ s) router at)))),
)

-- Joined links through distinct routers.
pub record Follows (links : List Link) (b : NiId) (at : Node) (path : List LinkId) : Type 0 where
  pub routers : List RouterId
  pub joins : Joins links at routers (Ni b) path
  pub distinct : AreDistinct routers

-- One more link, which begins at the node and leads where the others begin.
follows_on : (links : List Link) (b : NiId) (at to : Node) (l k : LinkId) (path : List LinkId)
    → IsLinkFrom links l at to → is_fresh links to (k ∷ path) ≡ true
    → Follows links b to (k ∷ path) → Follows links b at (l ∷ k ∷ path)
follows_on links b at (Router r) l k path goes fresh rest = record {
  routers = r ∷ rest.routers;
  joins = joins-more links at r rest.routers (Ni b) l (k ∷ path) goes rest.joins;
  distinct = (
    (fresh-Decides rest.routers r).0
        (ap not (sym (comes-is links (Router r) rest.routers b (k ∷ path) rest.joins r)) ∙ fresh),
    rest.distinct,
  );
}
follows_on links b at (Ni n) l k path goes fresh rest =
    let some : length (k ∷ path) ≡ 0 = eqb-true (length (k ∷ path)) 0 fresh in
    absurd (omega (arith, some))

-- One link that leads to the interface.
follows_one : (links : List Link) (b : NiId) (at to : Node) (l : LinkId)
    → IsLinkFrom links l at to → is_there b to ≡ true → Follows links b at (l ∷ [])
follows_one links b at (Router r) l goes there = absurd (false≢true there)
follows_one links b at (Ni n) l goes there =
    let same : Ni n ≡ Ni b = ap (λ k. Ni (record { 0 = k })) (eqb-true n.0 b.0 there) in
    record {
      routers = [];
      joins = joins-one links at (Ni b) l (subst (IsLinkFrom links l at) same goes);
      distinct = tt;
    }

-- The first link of what passes the test.
record First (links : List Link) (b : NiId) (at : Node) (l : LinkId) (path : List LinkId)
    : Type 0 where
  to : Node
  goes : IsLinkFrom links l at to
  fresh : is_fresh links to path ≡ true
  onward : follows links b to path ≡ true

first_of : (links : List Link) (b : NiId) (at : Node) (l : LinkId) (path : List LinkId)
    → follows links b at (l ∷ path) ≡ true → First links b at l path
first_of links b at l path found =
    let (link, is, passes) = passing _ (slice_get links l.0) found in
    let (begins, rest) = and_parts (begins_at at link) _ passes in
    let (fresh, onward) = and_parts (is_fresh links link.to path) _ rest in
    let from = same_node-true link.from at begins in
    record {
      to = link.to;
      goes = record { link = link; is = is; begins = from; ends = refl };
      fresh = fresh;
      onward = onward;
    }

-- What passes the test joins through distinct routers.
pub follows-true : (links : List Link) (b : NiId) (at : Node) (l : LinkId) (path : List LinkId)
    → follows links b at (l ∷ path) ≡ true → Follows links b at (l ∷ path)
follows-true links b at l [] found =
    let first = first_of links b at l [] found in
    follows_one links b at first.to l first.goes first.onward
follows-true links b at l (k ∷ path) found =
    let first = first_of links b at l (k ∷ path) found in
    follows_on links b at first.to l k path first.goes first.fresh
    (follows-true links b first.to k path first.onward)

-- What joins through distinct routers passes it.
pub true-follows : (links : List Link) (b : NiId) (at : Node) (routers : List RouterId)
    (path : List LinkId) → Joins links at routers (Ni b) path → AreDistinct routers
    → follows links b at path ≡ true
true-follows links b at routers [] joins distinct = joins-none links at routers (Ni b) joins
true-follows links b at [] (l ∷ path) joins distinct =
    let (none, goes) = joins-last links at (Ni b) l path joins in
    rw (none, goes.is, goes.begins, same_node-refl at, goes.ends, eq-eqb b.0 b.0 refl) refl
true-follows links b at (r ∷ routers) (l ∷ path) joins (once, distinct) =
    let (goes, rest) = joins-first links at r routers (Ni b) l path joins in
    let fresh : not (comes_to links r path) ≡ true =
    ap not (comes-is links (Router r) routers b path rest r) ∙ (fresh-Decides routers r).1 once in
    rw (
      goes.is,
      goes.begins,
      same_node-refl at,
      goes.ends,
      fresh,
      true-follows links b (Router r) routers path rest distinct,
    ) refl

-- ---- paths

pub is_path_between-Decides : (links : List Link) (a b : NiId) (path : List LinkId)
    → Decides (is_path_between links a b path) (IsPath links a b path)
is_path_between-Decides links a b [] = (
  (λ found. absurd (false≢true found)),
  (λ is. joins-none links (Ni a) is.routers (Ni b) is.joins),
)
is_path_between-Decides links a b (l ∷ path) = (
  (λ found.
      let (long, passes) = and_parts _ (follows links b (Ni a) (l ∷ path)) found in
      let is = follows-true links b (Ni a) l path passes in
      let count = joins-length links (Ni a) is.routers (Ni b) (l ∷ path) is.joins in
      let some = leb-true min_path_links (length (l ∷ path)) long in
      record {
        routers = is.routers;
        joins = is.joins;
        distinct = is.distinct;
        some = omega arith;
      }),
  (λ is.
      let count = joins-length links (Ni a) is.routers (Ni b) (l ∷ path) is.joins in
      let some = is.some in
      and_from _ _ (le-leb min_path_links (length (l ∷ path)) (omega arith))
      (true-follows links b (Ni a) is.routers (l ∷ path) is.joins is.distinct)),
)
