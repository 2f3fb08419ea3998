-- Laws of nodes and of the numbers of links.
use Rattle.std.proofs.Common.{◌≡◌, ◌<◌, ◌≤◌, ◌+◌, ◌-◌, ◌∙◌, ◌++◌, ℕ, zero, suc, true, false, List}
use Rattle.std.proofs.Common.{[], ◌∷◌, Bool, Some, None, length, map, take, drop, append_assoc}
use Rattle.std.proofs.Common.{refl, ap, inl, inr, arith, count_by, slice_get, IsSome, IfSome}
use Rattle.std.proofs.Common.{if◌then◌else◌, eq-eqb, eqb-true}
use Rattle.std.proofs.lemmas.Bool.{cases_Bool, false≢true}
use Rattle.std.proofs.lemmas.List.{drop_more, map-append}
use Rattle.std.proofs.lemmas.Option.{get_or_from_slice_get, same_Some, slice_get_within}
use Rattle.aeth_base.proofs.Lists.{count_by-before, count_by-no, count_by-yes}
use Rattle.aeth_base.specs.declared.ids.{LinkId.LinkId, RouterId.RouterId}
use Rattle.aeth_chip.specs.{declared.node.Link.Link, declared.node.Node.Node}
use Rattle.aeth_chip.specs.{declared.node.Node.TheVariants.Router}
use Rattle.aeth_chip.specs.{declared.node.Node.TheVariants.Ni, Chip.ChipData, Chip.IsChip}
use Rattle.aeth_chip.specs.{Index.IsPort, Limits.max_ports, Nodes.begins_at, Nodes.ends_at}
use Rattle.aeth_chip.specs.{Nodes.numbers_from, Nodes.receives_on, Nodes.router_of, Nodes.same_node}
use Rattle.aeth_chip.specs.{Nodes.sender_of, Nodes.sends_on}

-- A node is the same as itself.
pub same_node-refl : (node : Node) → same_node node node ≡ true
same_node-refl (Router r) = eq-eqb r.0 r.0 refl
same_node-refl (Ni n) = eq-eqb n.0 n.0 refl

-- Nodes that pass the test are one node.
pub same_node-true : (a b : Node) → same_node a b ≡ true → a ≡ b
same_node-true (Router r) (Router q) same =
    ap (λ n. Router (record { 0 = n })) (eqb-true r.0 q.0 same)
same_node-true (Router r) (Ni m) same = absurd (false≢true same)
same_node-true (Ni n) (Router q) same = absurd (false≢true same)
same_node-true (Ni n) (Ni m) same = ap (λ k. Ni (record { 0 = k })) (eqb-true n.0 m.0 same)

-- A link that passes a test stands in the list of numbers behind the links before it that pass.
pub numbers_from-at : (test : Link → Bool) (number : ℕ) (links : List Link) (i : ℕ) (link : Link)
    → slice_get links i ≡ Some link → test link ≡ true
    → slice_get (numbers_from number test links) (count_by test (take i links)) ≡ Some (number + i)
numbers_from-at test number [] i link at passes = absurd (cc at)
numbers_from-at test number (first ∷ links) zero link at passes =
    let same : first ≡ link = same_Some first link at in
    let here : test first ≡ true = rw same passes in
    let none : number + 0 ≡ number = omega arith in
    rw (here, none) refl
numbers_from-at test number (first ∷ links) (suc i) link at passes =
    let more : number + suc i ≡ (number + 1) + i = omega arith in
    let rest = numbers_from-at test (number + 1) links i link at passes in
    elim (cases_Bool (test first)) [
      | inl here ↦ rw (count_by-yes test first (take i links) here, here, more) rest
      | inr other ↦ rw (count_by-no test first (take i links) other, other, more) rest
    ]

-- What stands in the list of numbers is a link that passes the test.
pub record IsFound (test : Link → Bool) (links : List Link) (i : ℕ) : Type 0 where
  pub link : Link
  pub at : slice_get links i ≡ Some link
  pub passes : test link ≡ true

found_behind : (test : Link → Bool) (first : Link) (links : List Link) (number found : ℕ)
    → (number + 1 ≤ found) × IsFound test links (found - (number + 1))
    → (number ≤ found) × IsFound test (first ∷ links) (found - number)
found_behind test first links number found (after, is_found) =
    let more : found - number ≡ suc (found - (number + 1)) = omega arith in (
      omega arith,
      record { link = is_found.link; at = rw more (is_found.at); passes = is_found.passes },
    )

found_first : (test : Link → Bool) (number : ℕ) (first : Link) (links : List Link)
    (numbers : List ℕ) (place found : ℕ) → test first ≡ true
    → ((p f : ℕ) → slice_get numbers p ≡ Some f
    → (number + 1 ≤ f) × IsFound test links (f - (number + 1)))
    → slice_get (number ∷ numbers) place ≡ Some found
    → (number ≤ found) × IsFound test (first ∷ links) (found - number)
found_first test number first links numbers zero found here later at =
    let same : number ≡ found = same_Some number found at in
    let start : found - number ≡ 0 = omega arith in
    (omega arith, record { link = first; at = rw start refl; passes = here })
found_first test number first links numbers (suc place) found here later at =
    found_behind test first links number found (later place found at)

pub numbers_from-found : (test : Link → Bool) (number : ℕ) (links : List Link) (place found : ℕ)
    → slice_get (numbers_from number test links) place ≡ Some found
    → (number ≤ found) × IsFound test links (found - number)
numbers_from-found test number [] place found at = absurd (cc at)
numbers_from-found test number (first ∷ links) place found at =
    let later = numbers_from-found test (number + 1) links in
    elim (cases_Bool (test first)) [
      | inl here ↦ found_first test number first links (numbers_from (number + 1) test links) place
          found here later (rw here at at)
      | inr other ↦ found_behind test first links number found
          (later place found (rw other at at))
    ]

-- A router sends on each link that stands in its list.
pub sends_on-found : (links : List Link) (node : Node) (place link : ℕ)
    → slice_get (sends_on node links) place ≡ Some link → IsFound (begins_at node) links link
sends_on-found links node place link at =
    let same : link - 0 ≡ link = omega arith in
    rw same at ((numbers_from-found (begins_at node) 0 links place link at).1)

-- A node receives on each link that stands in its list.
pub receives_on-found : (links : List Link) (node : Node) (place link : ℕ)
    → slice_get (receives_on node links) place ≡ Some link → IsFound (ends_at node) links link
receives_on-found links node place link at =
    let same : link - 0 ≡ link = omega arith in
    rw same at ((numbers_from-found (ends_at node) 0 links place link at).1)

-- The router that sends on a link of its list.
sender_is : (from : Node) (router : RouterId) → same_node from (Router router) ≡ true
    → router_of from ≡ Some router
sender_is (Router r) router same =
    ap (λ n. Some (record { 0 = n })) (eqb-true r.0 router.0 same)
sender_is (Ni n) router same = absurd (cc same)

pub sender_of-found : (links : List Link) (router : RouterId) (place link : ℕ)
    → slice_get (sends_on (Router router) links) place ≡ Some link
    → sender_of links link ≡ Some router
sender_of-found links router place link at =
    let found = sends_on-found links (Router router) place link at in
    rw found.at (sender_is found.link.from router found.passes)

once_first : (number : ℕ) (numbers : List ℕ) (i j found : ℕ)
    → ((p f : ℕ) → slice_get numbers p ≡ Some f → number + 1 ≤ f)
    → ((p q f : ℕ) → slice_get numbers p ≡ Some f → slice_get numbers q ≡ Some f → p ≡ q)
    → slice_get (number ∷ numbers) i ≡ Some found → slice_get (number ∷ numbers) j ≡ Some found
    → i ≡ j
once_first number numbers zero zero found after once here there = refl
once_first number numbers zero (suc j) found after once here there =
    let same : number ≡ found = same_Some number found here in
    let later = after j found there in
    absurd (omega arith)
once_first number numbers (suc i) zero found after once here there =
    let same : number ≡ found = same_Some number found there in
    let later = after i found here in
    absurd (omega arith)
once_first number numbers (suc i) (suc j) found after once here there =
    ap suc (once i j found here there)

-- A number stands once in the list.
pub numbers_from-once : (test : Link → Bool) (number : ℕ) (links : List Link) (i j found : ℕ)
    → slice_get (numbers_from number test links) i ≡ Some found
    → slice_get (numbers_from number test links) j ≡ Some found → i ≡ j
numbers_from-once test number [] i j found here there = absurd (cc here)
numbers_from-once test number (first ∷ links) i j found here there =
    let later = numbers_from-found test (number + 1) links in
    let rest = numbers_from-once test (number + 1) links in
    elim (cases_Bool (test first)) [
      | inl passes ↦ once_first number (numbers_from (number + 1) test links) i j found
          (λ p f at. (later p f at).0) (λ p q f at also. rest p q f at also)
          (rw passes at here) (rw passes at there)
      | inr fails ↦ rest i j found (rw fails at here) (rw fails at there)
    ]

-- There are as many numbers as links that pass.
pub length-numbers_from : (test : Link → Bool) (number : ℕ) (links : List Link)
    → length (numbers_from number test links) ≡ count_by test links
length-numbers_from test number [] = refl
length-numbers_from test number (link ∷ links) =
    let rest = length-numbers_from test (number + 1) links in
    elim (cases_Bool (test link)) [
      | inl here ↦ rw (count_by-yes test link links here, here) (ap (λ n. suc n) rest)
      | inr other ↦ rw (count_by-no test link links other, other) rest
    ]

-- Where none passes there is no number.
pub numbers_from-none : (test : Link → Bool) (number : ℕ) (links : List Link)
    → ((i : ℕ) (link : Link) → slice_get links i ≡ Some link → test link ≡ false)
    → numbers_from number test links ≡ []
numbers_from-none test number [] fails = refl
numbers_from-none test number (link ∷ links) fails =
    rw (fails 0 link refl)
    (numbers_from-none test (number + 1) links (λ i other at. fails (suc i) other at))

-- One more link at the end adds its number where it passes.
pub numbers_from-push : (test : Link → Bool) (number : ℕ) (links : List Link) (link : Link)
    → numbers_from number test (links ++ link ∷ [])
    ≡ numbers_from number test links
    ++ (if test link then (number + length links) ∷ [] else [])
numbers_from-push test number [] link =
    let same : number + 0 ≡ number = omega arith in
    rw same refl
numbers_from-push test number (first ∷ links) link =
    let more : number + suc (length links) ≡ (number + 1) + length links = omega arith in
    let rest = numbers_from-push test (number + 1) links link in
    elim (cases_Bool (test first)) [
      | inl here ↦ rw (here, more) (ap (λ numbers. number ∷ numbers) rest)
      | inr other ↦ rw (other, more) rest
    ]

-- The numbers of the links before one, and from it on, are those of all: what one more link adds.
module _ (test : Link → Bool) (links : List Link) (front : List LinkId) (all : List ℕ)
    (number : ℕ) (link : Link) (at : slice_get links number ≡ Some link)
    (before : map (λ l. l.0) front ++ numbers_from number test (drop number links) ≡ all) where
  -- The links from this one on.
  from-here : drop number links ≡ link ∷ drop (number + 1) links
  from-here =
      rw (get_or_from_slice_get links number link link at) at
      (drop_more links number link (slice_get_within links number link at))

  -- A link that passes the test is one more.
  pub numbers_from-passes : test link ≡ true
      → map (λ l. l.0) (front ++ record { 0 = number } ∷ [])
      ++ numbers_from (number + 1) test (drop (number + 1) links) ≡ all
  numbers_from-passes passes =
      let rest = numbers_from (number + 1) test (drop (number + 1) links) in
      rw (map-append (λ (l : LinkId). l.0) front (record { 0 = number } ∷ []))
      (append_assoc (map (λ l. l.0) front) (number ∷ []) rest ∙ rw (from-here, passes) at before)

  -- One that fails it is none.
  pub numbers_from-fails : test link ≡ false
      → map (λ l. l.0) front ++ numbers_from (number + 1) test (drop (number + 1) links) ≡ all
  numbers_from-fails fails = rw (from-here, fails) at before

-- No router isn't some router.
no_sender : IsSome {T = RouterId} None → ⊥
no_sender some = absurd (cc some)

-- The port of a link that begins at this node, where it is a router.
port_from : (chip : ChipData) (l : ℕ) (link : Link) (port : ℕ) (from : Node) → IsChip chip
    → slice_get chip.links l ≡ Some link → link.from ≡ from → IsSome (router_of from)
    → ((router : RouterId) → router_of from ≡ Some router
    → port ≡ count_by (begins_at (Router router)) (take l chip.links))
    → (port < max_ports) × IfSome (router_of from) (λ router.
    slice_get (sends_on (Router router) chip.links) port ≡ Some l)
port_from chip l link port (Ni n) is_chip at begins some counts = absurd (no_sender some)
port_from chip l link port (Router r) is_chip at begins some counts =
    let node : Node = Router r in
    let here : begins_at node link ≡ true = rw begins (same_node-refl node) in
    let before = count_by-before (begins_at node) chip.links l link at here in
    let inside : r.0 < length chip.routers =
    let ends = (is_chip.links l link at).from in rw begins at ends in
    let few = (is_chip.ports r inside).sends in
    let is_port = counts r refl in
    let place : 0 + l ≡ l = omega arith in
    let stands = rw (← is_port, place) at (numbers_from-at (begins_at node) 0 chip.links l link at
    here) in
    (omega arith, stands)

-- A link on which a router sends is there.
sender_link : (links : List Link) (l : ℕ) → IsSome (sender_of links l)
    → (link : Link) × (slice_get links l ≡ Some link)
sender_link [] l some = absurd (no_sender some)
sender_link (link ∷ links) zero some = (link, refl)
sender_link (link ∷ links) (suc l) some = sender_link links l some

-- The port of a link on which a router sends.
pub port_at : (chip : ChipData) (l port : ℕ) → IsChip chip → IsSome (sender_of chip.links l)
    → IsPort chip.links l port
    → (port < max_ports) × IfSome (sender_of chip.links l) (λ router.
    slice_get (sends_on (Router router) chip.links) port ≡ Some l)
port_at chip l port is_chip some is_port =
    let (link, at) = sender_link chip.links l some in
    rw at (port_from chip l link port link.from is_chip at refl (rw at at some) (rw at at is_port))
