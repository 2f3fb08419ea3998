-- Laws of routers with tables.
use Rattle.std.proofs.Common.{◌≡◌, ◌<◌, ◌≤◌, ◌∙◌, ◌+◌, ◌*◌, ◌%◌, ℕ, zero, suc, refl, ap, inl, inr}
use Rattle.std.proofs.Common.{arith, sym, true, false, Bool, List, [], ◌∷◌, length, map, replicate}
use Rattle.std.proofs.Common.{get_or, slice_get, Option, Some, None, ◌==◌, not, option_and_then}
use Rattle.std.proofs.Common.{option_map, position}
use Rattle.std.proofs.lemmas.{Bool.cases_Bool, Bool.cases_lt, List.length-map}
use Rattle.std.proofs.lemmas.{List.length-replicate, List.Sums.count_by-le-length, Nat.mul-add-lt}
use Rattle.std.specs.List.{list_any, prefix_len}
use Rattle.aeth_base.{proofs.Lists.list_any-map, specs.declared.ids.LinkId.LinkId}
use Rattle.aeth_chip.specs.{declared.node.Link.Link, Nodes.numbers_from}
use Rattle.aeth_chip.proofs.NodeLemmas.{length-numbers_from}
use Rattle.aeth_clocked.specs.{Wires.AreLinks, declared.flit.Flit.Flit}
use Rattle.aeth_router.specs.Ports.{hopped}
use Rattle.aeth_router.specs.Router.{AreDistinctLinks, is_among, numbers_of}
use Rattle.aeth_router.specs.TableRouter.{TableRouterState, place_from, routed, sent_from, sent_on}
use Rattle.aeth_router.specs.TableRouter.{table_emit, table_outputs}
use Rattle.aeth_router.proofs.{LinkLemmas.is_among-at, LinkLemmas.position-at, Steps.numbers_of-got}

-- The entries of a port are within a table.
pub entry-within : (port slot ports slots : ℕ) → port < ports → slot < slots
    → port * slots + slot < ports * slots
entry-within port slot ports slots is_port is_slot =
    let within = mul-add-lt port slots slot ports is_port is_slot in
    omega arith

-- No more links of a chip than all pass a test, counted by their numbers,
pub few-numbers : (test : Link → Bool) (all : List Link) (links : List LinkId)
    → numbers_of links ≡ numbers_from 0 test all → length (numbers_of links) ≤ length all
few-numbers test all links are =
    let size : length (numbers_of links) ≡ length (numbers_from 0 test all) = ap length are in
    let count = length-numbers_from test 0 all in
    let few = count_by-le-length test all in
    omega arith

-- or as links.
pub few-passing : (test : Link → Bool) (all : List Link) (links : List LinkId)
    → numbers_of links ≡ numbers_from 0 test all → length links ≤ length all
few-passing test all links are =
    rw (length-map links (λ (link : LinkId). link.0)) at (few-numbers test all links are)

-- A link is among some just where its number is.
pub is_among-numbers_of : (links : List LinkId) (link : LinkId)
    → is_among (numbers_of links) link.0 ≡ list_any (λ other. other.0 == link.0) links
is_among-numbers_of links link =
    list_any-map (λ other. other == link.0) (λ (link : LinkId). link.0) links

-- As many elements of a list are in front of the first that passes as of their images.
prefix_len-map : {X Y : Type 0} (change : X → Y) (test : Y → Bool) (xs : List X)
    → prefix_len test (map change xs) ≡ prefix_len (λ x. test (change x)) xs
prefix_len-map change test [] = refl
prefix_len-map change test (x ∷ xs) =
    elim (cases_Bool (test (change x))) [
      | inl passes ↦ rw passes (ap (λ n. 1 + n) (prefix_len-map change test xs))
      | inr fails ↦ rw fails refl
    ]

-- A link is at the place of its number.
position-numbers_of : (links : List LinkId) (link : LinkId)
    → position (λ other. other.0 == link.0) links
    ≡ position (λ other. other == link.0) (numbers_of links)
position-numbers_of links link =
    let size = length-map links (λ (link : LinkId). link.0) in
    let front = prefix_len-map (λ (link : LinkId). link.0) (λ other. not (other == link.0)) links in
    rw (size, front) refl

-- So an entry is the place of a link.
pub place_from-some : (links : List LinkId) (from : Option LinkId) (link : LinkId)
    (place : Option ℕ) → from ≡ Some link → place ≡ position (λ other. other.0 == link.0) links
    → place ≡ place_from (numbers_of links) from
place_from-some links from link place is at = rw is (at ∙ position-numbers_of links link)

-- Where all are the same, each is, and so is what stands for those that aren't there.
pub get_or-same : {X : Type 0} (x : X) (count place : ℕ) → get_or (replicate count x) place x ≡ x
get_or-same x zero place = refl
get_or-same x (suc count) zero = refl
get_or-same x (suc count) (suc place) = get_or-same x count place

-- A table without entries has one for each slot of each port.
pub length-entries : (links : List LinkId) (entries : List (Option ℕ)) (ports slots : ℕ)
    → entries ≡ replicate (ports * slots) None → ports ≡ length links
    → length entries ≡ length (numbers_of links) * slots
length-entries links entries ports slots empty are =
    ap length empty ∙ length-replicate (ports * slots) None
    ∙ ap (λ n. n * slots) (are ∙ sym (length-map links (λ (link : LinkId). link.0)))

-- Where no flit is held no entry sends any on.
pub sent_from-idle : (held : List (Option Flit)) (entry : Option ℕ)
    → held ≡ replicate (length held) None → sent_from held entry ≡ None
sent_from-idle held None idle = refl
sent_from-idle held (Some place) idle =
    ap (option_map hopped)
    (ap (λ held. get_or held place None) idle ∙ get_or-same None (length held) place)

-- A link carries nothing where no port does.
sent_on-idle : (outgoing : List ℕ) (carried : ℕ → Option Flit) (link : ℕ)
    → ((port : ℕ) → carried port ≡ None) → sent_on outgoing carried link ≡ None
sent_on-idle outgoing carried link none =
    let cases : (port : Option ℕ) → option_and_then carried port ≡ None =
    elim [ None ↦ refl | Some port ↦ none port ] in
    cases (position (λ other. other == link) outgoing)

-- A router with a table that holds no flit emits none.
pub table_emit-idle : (router : TableRouterState) (cycle link : ℕ)
    → router.held ≡ replicate (length router.held) None → table_emit router cycle link ≡ None
table_emit-idle router cycle link idle =
    sent_on-idle router.outgoing (routed router (cycle % router.slots)) link
    (λ port. sent_from-idle router.held _ idle)

-- A link has what its port carries.
pub sent_on-port : (outgoing : List ℕ) (carried : ℕ → Option Flit) (port link : ℕ)
    → AreDistinctLinks outgoing → slice_get outgoing port ≡ Some link
    → sent_on outgoing carried link ≡ carried port
sent_on-port outgoing carried port link apart at = rw (position-at outgoing port link apart at) refl

-- There are as many ports as links that are theirs.
pub length-ports : (router : TableRouterState) (links : List LinkId)
    → numbers_of links ≡ router.outgoing → length links ≡ length router.outgoing
length-ports router links are = sym (length-map links (λ (link : LinkId). link.0)) ∙ ap length are

-- The link of a port, where the links are these.
pub port-link : (router : TableRouterState) (links : List LinkId) (port : ℕ) (link : LinkId)
    → numbers_of links ≡ router.outgoing → port < length router.outgoing
    → link ≡ get_or links port link → slice_get router.outgoing port ≡ Some link.0
port-link router links port link are within is =
    let ports = length-ports router links are in
    rw (← are) (numbers_of-got links port link (omega arith) is)

-- It is one of so many, where all are.
pub port-link-below : (router : TableRouterState) (links : List LinkId) (port count : ℕ)
    (link : LinkId) → numbers_of links ≡ router.outgoing → port < length router.outgoing
    → link ≡ get_or links port link → AreLinks (table_outputs router) count → link.0 < count
port-link-below router links port count link are within is below =
    below link.0 (is_among-at router.outgoing port link.0
    (port-link router links port link are within is))

-- What isn't so past all ports is so of a port.
pub is_port-from : (ports port : ℕ) (is : Bool) → (ports ≤ port → is ≡ false) → is ≡ true
    → port < ports
is_port-from ports port is past does =
    elim (cases_lt port ports) [
      | inl within ↦ within
      | inr beyond ↦ absurd (cc (sym does ∙ past beyond))
    ]
