-- The walks over routers and network interfaces.
use Rattle.std.proofs.Common.{◌≡◌, ◌≤◌, ◌<◌, ◌+◌, ℕ, zero, suc, true, List, [], ◌∷◌, length, Option}
use Rattle.std.proofs.Common.{Some, None, refl, sym, ap, inl, inr, arith, codes, slice_get, max}
use Rattle.std.proofs.Common.{count_by, option_and_then, Ok, eqb-true}
use Rattle.std.proofs.lemmas.{Bool.cases_Bool, Bool.Decides.nat_tests, Option.same_Some}
use Rattle.std.proofs.Math.Nat.{le-max_left, le-max_right}
use Rattle.aeth_base.specs.declared.{ids.NiId.NiId, ids.RouterId.RouterId, shown.Shown.Shown}
use Rattle.aeth_chip.specs.declared.node.Link.{Link}
use Rattle.aeth_chip.specs.declared.node.Node.{Node, TheVariants.Router, TheVariants.Ni}
use Rattle.aeth_chip.specs.Chip.{HasFewPorts, IsSingle}
use Rattle.aeth_chip.specs.ChipFile.{crowded, is_single, nis_are_single, not_single, ports_are_few}
use Rattle.aeth_chip.specs.ChipFile.{router_at, same_router, unjoined}
use Rattle.aeth_chip.specs.Limits.{max_ports}
use Rattle.aeth_chip.specs.Nodes.{begins_at, ends_at, receives_on, router_of, sends_on}
use Rattle.aeth_document.specs.Walks.{first_broken, next_place}
use Rattle.aeth_document.proofs.ChainLemmas.{judged-none}
use Rattle.aeth_document.proofs.WalkLemmas.{first_broken-range, first_broken-tail}

-- A router that isn't crowded has few ports.
few_ports : (links : List Link) (router : ℕ) → crowded links router ≡ None
    → HasFewPorts links (record { 0 = router })
few_ports links router none =
    let node : Node = Router (record { 0 = router }) in
    let sends = count_by (begins_at node) links in
    let receives = count_by (ends_at node) links in
    let few : max sends receives ≤ max_ports = grind (arith, nat_tests) in
    record {
      sends = omega (arith, le-max_left sends receives);
      receives = omega (arith, le-max_right sends receives);
    }

-- Where no router is crowded, each has few ports.
pub each_has_few_ports : (routers : ℕ) (links : List Link) → ports_are_few routers links ≡ Ok tt
    → (router : RouterId) → router.0 < routers → HasFewPorts links router
unfolding ports_are_few
each_has_few_ports routers links kept router within =
    let none = judged-none 6 (codes "TooManyPorts") _ tt kept in
    let same : 0 + router.0 ≡ router.0 = omega arith in
    few_ports links router.0
    (rw same at (first_broken-range (crowded links) 0 0 routers router.0 none within))

-- A network interface that shows no name is single.
single_here : (links : List Link) (ni place : ℕ) (name : List ℕ) (names : List (List ℕ))
    → first_broken place (not_single links ni (name ∷ names)) ≡ None → is_single links ni ≡ true
single_here links ni place name names none =
    elim (cases_Bool (is_single links ni)) [
      | inl single ↦ single
      | inr other ↦ absurd (cc (rw other at none))
    ]

-- Where each network interface passes, each is single.
single_at : (links : List Link) (place ni i : ℕ) (names : List (List ℕ))
    → first_broken place (not_single links ni names) ≡ None → i < length names
    → is_single links (ni + i) ≡ true
single_at links place ni i [] none within = absurd (omega arith)
single_at links place ni zero (name ∷ names) none within =
    let same : ni + 0 ≡ ni = omega arith in
    rw same (single_here links ni place name names none)
single_at links place ni (suc i) (name ∷ names) none within =
    let same : ni + suc i ≡ (ni + 1) + i = omega arith in
    let first : Option Shown = unjoined links ni name in
    let rest = first_broken-tail place first (not_single links (ni + 1) names) none in
    rw same (single_at links (next_place place) (ni + 1) i names rest (omega arith))

-- The link of a list of one number, and the router at its end.
record HasRouter (end : Link → Node) (links : List Link) (numbers : List ℕ)
    (router : RouterId) : Type 0 where
  number : ℕ
  link : Link
  only_one : numbers ≡ number ∷ []
  is : slice_get links number ≡ Some link
  ends : end link ≡ Router router

router_of-Some : (node : Node) (router : RouterId) → router_of node ≡ Some router
    → node ≡ Router router
router_of-Some (Router r) router found = ap (λ q. Router q) (same_Some r router found)
router_of-Some (Ni n) router found = absurd (cc found)

has_router-at : (end : Link → Node) (links : List Link) (number : ℕ) (router : RouterId)
    (link : Option Link) → slice_get links number ≡ link
    → option_and_then (λ l. router_of (end l)) link ≡ Some router
    → HasRouter end links (number ∷ []) router
has_router-at end links number router None is found = absurd (cc found)
has_router-at end links number router (Some link) is found = record {
  number = number;
  link = link;
  only_one = refl;
  is = is;
  ends = router_of-Some (end link) router found;
}

has_router : (end : Link → Node) (links : List Link) (numbers : List ℕ) (router : RouterId)
    → router_at end links numbers ≡ Some router → HasRouter end links numbers router
has_router end links [] router found = absurd (cc found)
has_router end links (number ∷ []) router found =
    has_router-at end links number router (slice_get links number) refl found
has_router end links (number ∷ next ∷ numbers) router found = absurd (cc found)

-- Two routers that are one.
record AreOne (a b : Option RouterId) : Type 0 where
  router : RouterId
  first : a ≡ Some router
  second : b ≡ Some router

are_one : (a b : Option RouterId) → same_router a b ≡ true → AreOne a b
are_one None b same = absurd (cc same)
are_one (Some r) None same = absurd (cc same)
are_one (Some r) (Some q) same =
    let numbers : r.0 ≡ q.0 = eqb-true r.0 q.0 same in
    let routers : q ≡ r = ap (λ n. record { 0 = n }) (sym numbers) in
    record { router = r; first = refl; second = ap (λ x. Some x) routers }

-- A network interface that is single has a link each way, and one router at their other ends.
is_single-parts : (links : List Link) (ni : ℕ) → is_single links ni ≡ true
    → IsSingle links (record { 0 = ni })
is_single-parts links ni single =
    let node : Node = Ni (record { 0 = ni }) in
    let one = are_one (router_at (λ l. l.to) links (sends_on node links))
    (router_at (λ l. l.from) links (receives_on node links)) single in
    let out = has_router (λ l. l.to) links (sends_on node links) one.router one.first in
    let back = has_router (λ l. l.from) links (receives_on node links) one.router one.second in
    record {
      router = one.router;
      leaving = record { 0 = out.number };
      entering = record { 0 = back.number };
      out = out.link;
      back = back.link;
      sends = out.only_one;
      receives = back.only_one;
      is_out = out.is;
      is_back = back.is;
      to = out.ends;
      from = back.ends;
    }

-- Where the rule of network interfaces is kept, each is joined to one router.
pub each_is_single : (nis : List (List ℕ)) (links : List Link) → nis_are_single nis links ≡ Ok tt
    → (ni : NiId) → ni.0 < length nis → IsSingle links ni
unfolding nis_are_single
each_is_single nis links kept ni within =
    let none = judged-none 7 (codes "NiNotSingle") _ tt kept in
    let same : 0 + ni.0 ≡ ni.0 = omega arith in
    is_single-parts links ni.0 (rw same at (single_at links 0 0 ni.0 nis none within))
