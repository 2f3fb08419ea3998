-- The wires of a chip are wired as those of routed sessions are to be.
use Rattle.std.proofs.Common.{◌≡◌, ◌<◌, ◌-◌, ◌∙◌, ℕ, zero, suc, ◌+◌, Bool, true, List, [], ◌∷◌}
use Rattle.std.proofs.Common.{Option, Some, None, length, take, slice_get, refl, sym, ap, subst}
use Rattle.std.proofs.Common.{arith, eqb, count_by, option_and_then, option_map, position}
use Rattle.std.proofs.Common.{slice_index, unwrap_or}
use Rattle.std.proofs.lemmas.Option.{none-some, same_Some, slice_get-map, slice_get_within}
use Rattle.aeth_base.specs.declared.ids.{NiId.NiId, RouterId.RouterId}
use Rattle.aeth_base.proofs.Lists.{option_map-some}
use Rattle.aeth_chip.specs.{Chip.ChipData, Chip.IsChip, Chip.IsNode, Nodes.begins_at, Nodes.ends_at}
use Rattle.aeth_chip.specs.{Nodes.numbers_from, Nodes.receives_on, Nodes.router_of, Nodes.sends_on}
use Rattle.aeth_chip.specs.{Paths.delay_of, Wires.HaveDelays, Wires.wire_at}
use Rattle.aeth_chip.specs.{declared.node.Link.Link, declared.node.Node.Node}
use Rattle.aeth_chip.specs.{declared.node.Node.TheVariants.Ni}
use Rattle.aeth_chip.specs.{declared.node.Node.TheVariants.Router}
use Rattle.aeth_chip.proofs.NodeLemmas.{numbers_from-at, numbers_from-once, receives_on-found}
use Rattle.aeth_chip.proofs.NodeLemmas.{same_node-refl, same_node-true}
use Rattle.aeth_chip.proofs.WireLemmas.{have_delays, wire_at-apart}
use Rattle.aeth_invariant.specs.WellRouted.{IsWired}
use Rattle.aeth_invariant.specs.RoutedSessions.{AtInterface, AtRouter, AtStage, RoutedSession}
use Rattle.aeth_report.specs.Routes.{port_of}
use Rattle.aeth_router.specs.Router.{entering_wires, last_wire}
use Rattle.aeth_router.proofs.LinkLemmas.{position-at}
use Rattle.aeth_routed_sessions.specs.Wiring.{end_in, end_of, entering_of, routed_sessions_on}
use Rattle.aeth_routed_sessions.specs.Wiring.{leaving_of, node_end, start_of, wire_place}
use Rattle.aeth_routed_sessions.proofs.WireEnds.{delay-there, ends_at-node, inner-ends, last-ends}
use Rattle.aeth_routed_sessions.proofs.WireEnds.{starts_at-node, starts_behind, Behind, FollowsIn}
use Rattle.aeth_routed_sessions.proofs.WireEnds.{NoWire, StartsBehind}
use Rattle.aeth_routed_sessions.proofs.WirePlaces.{wire_place-at}

-- A link stands in the list of those that pass a test.
listed : (test : Link → Bool) (links : List Link) (l : ℕ) (link : Link)
    → slice_get links l ≡ Some link → test link ≡ true
    → slice_get (numbers_from 0 test links) (count_by test (take l links)) ≡ Some l
listed test links l link at passes =
    let from_start : 0 + l ≡ l = omega arith in
    numbers_from-at test 0 links l link at passes ∙ ap (λ (n : ℕ). Some n) from_start

-- It begins at its own node, and ends at its own.
sent : (links : List Link) (l : ℕ) (link : Link) (node : Node) → slice_get links l ≡ Some link
    → link.from ≡ node → slice_get (sends_on node links) (count_by (begins_at node) (take l links))
    ≡ Some l
sent links l link node at from =
    listed (begins_at node) links l link at (rw from (same_node-refl node))

received : (links : List Link) (l : ℕ) (link : Link) (node : Node) → slice_get links l ≡ Some link
    → link.to ≡ node → slice_get (receives_on node links) (count_by (ends_at node) (take l links))
    ≡ Some l
received links l link node at to =
    listed (ends_at node) links l link at (rw to (same_node-refl node))

-- What is in a list of one number is that number.
only_one : (xs : List ℕ) (one k x : ℕ) → xs ≡ one ∷ [] → slice_get xs k ≡ Some x
    → x ≡ slice_index xs 0
only_one xs one zero x is at =
    let there : one ≡ x = same_Some one x (ap (λ (ys : List ℕ). slice_get ys 0) (sym is) ∙ at) in
    sym there ∙ ap (λ (ys : List ℕ). slice_index ys 0) (sym is)
only_one xs one (suc k) x is at =
    absurd (cc (ap (λ (ys : List ℕ). slice_get ys (suc k)) (sym is) ∙ at))

-- The port of a link is its place among those of its router.
pub port_at : (links : List Link) (l : ℕ) (link : Link) (router : RouterId)
    → slice_get links l ≡ Some link → link.from ≡ Router router
    → slice_get (sends_on (Router router) links) (port_of links (record { 0 = l })) ≡ Some l
port_at links l link router at from =
    let ports = sends_on (Router router) links in
    let place = count_by (begins_at (Router router)) (take l links) in
    let stands = sent links l link (Router router) at from in
    let found = position-at ports place l (numbers_from-once (begins_at (Router router)) 0 links)
    stands in
    let port : Option RouterId → ℕ = λ o. unwrap_or (option_and_then
    (λ r. position (λ other. eqb other l) (sends_on (Router r) links)) o) 0 in
    let is : port_of links (record { 0 = l }) ≡ place =
    ap (λ (o : Option Link). port (option_and_then (λ k. router_of k.from) o)) at
    ∙ ap (λ (node : Node). port (router_of node)) from
    ∙ ap (λ (o : Option ℕ). unwrap_or o 0) found in
    ap (slice_get ports) is ∙ stands

module _ (chip : ChipData) (is_chip : IsChip chip) where
  delays : HaveDelays chip.links
  delays = have_delays chip is_chip

  -- One link leaves an interface, and one enters it.
  pub leaves : (wire n : ℕ) → start_of chip.links wire ≡ AtInterface n
      → wire ≡ leaving_of chip.links n
  leaves wire n starts =
      let ni : NiId = record { 0 = n } in
      let found = starts_at-node chip.links delays wire (Ni ni) starts in
      let known : n < length chip.nis =
      subst (λ (node : Node). IsNode chip.routers chip.nis node) found.from
      (is_chip.links wire found.link found.at).from in
      let single = is_chip.single ni known in
      only_one (sends_on (Ni ni) chip.links) single.leaving.0
      (count_by (begins_at (Ni ni)) (take wire chip.links)) wire single.sends
      (sent chip.links wire found.link (Ni ni) found.at found.from)

  pub enters : (wire n : ℕ) → end_of chip.links wire ≡ AtInterface n
      → wire ≡ entering_of chip.links n
  enters wire n ends =
      let ni : NiId = record { 0 = n } in
      let found = ends_at-node chip.links delays wire (Ni ni) ends in
      let l = found.number in
      let known : n < length chip.nis =
      subst (λ (node : Node). IsNode chip.routers chip.nis node) found.to
      (is_chip.links l found.link found.at).to in
      let single = is_chip.single ni known in
      let one = only_one (receives_on (Ni ni) chip.links) single.entering.0
      (count_by (ends_at (Ni ni)) (take l chip.links)) l single.receives
      (received chip.links l found.link (Ni ni) found.at found.to) in
      sym found.is ∙ ap (last_wire chip.links) one

  -- A port of a router has one link.
  pub ports : (l m r : ℕ) → start_of chip.links l ≡ AtRouter r → start_of chip.links m ≡ AtRouter r
      → port_of chip.links (record { 0 = l }) ≡ port_of chip.links (record { 0 = m }) → l ≡ m
  ports l m r one two same =
      let router : RouterId = record { 0 = r } in
      let first = starts_at-node chip.links delays l (Router router) one in
      let second = starts_at-node chip.links delays m (Router router) two in
      same_Some l m (sym (port_at chip.links l first.link router first.at first.from)
      ∙ ap (slice_get (sends_on (Router router) chip.links)) same
      ∙ port_at chip.links m second.link router second.at second.from)

  -- The wires that enter a router.
  pub reaches : (wire r : ℕ) → end_of chip.links wire ≡ AtRouter r → (k : ℕ)
      × (slice_get (entering_wires (record { 0 = r }) chip.links) k ≡ Some wire)
  reaches wire r ends =
      let router : RouterId = record { 0 = r } in
      let found = ends_at-node chip.links delays wire (Router router) ends in
      let l = found.number in
      let place = count_by (ends_at (Router router)) (take l chip.links) in (
        place,
        slice_get-map (last_wire chip.links) (receives_on (Router router) chip.links) place
            ∙ ap (option_map (last_wire chip.links))
            (received chip.links l found.link (Router router) found.at found.to)
            ∙ ap (λ (n : ℕ). Some n) found.is,
      )

  -- What stands in their list.
  pub record IsEntering (k wire r : ℕ) : Type 0 where
    pub number : ℕ
    pub link : Link
    pub at : slice_get (receives_on (Router (record { 0 = r })) chip.links) k ≡ Some number
    pub is_link : slice_get chip.links number ≡ Some link
    pub to : link.to ≡ Router (record { 0 = r })
    pub is : last_wire chip.links number ≡ wire

  entering-is : (k wire r : ℕ)
      → slice_get (entering_wires (record { 0 = r }) chip.links) k ≡ Some wire
      → IsEntering k wire r
  entering-is k wire r at =
      let router : RouterId = record { 0 = r } in
      let receives = receives_on (Router router) chip.links in
      let (number, there, is) = option_map-some (last_wire chip.links) (slice_get receives k) wire
      (sym (slice_get-map (last_wire chip.links) receives k) ∙ at) in
      let found = receives_on-found chip.links (Router router) k number there in
      record {
        number = number;
        link = found.link;
        at = there;
        is_link = found.at;
        to = same_node-true found.link.to (Router router) found.passes;
        is = is;
      }

  pub ends : (k wire r : ℕ)
      → slice_get (entering_wires (record { 0 = r }) chip.links) k ≡ Some wire
      → end_of chip.links wire ≡ AtRouter r
  ends k wire r at =
      let found = entering-is k wire r at in
      ap (end_of chip.links) (sym found.is)
      ∙ last-ends chip.links delays found.number found.link found.is_link
      ∙ ap (λ (node : Node). node_end node) found.to

  pub once : (j k wire r : ℕ)
      → slice_get (entering_wires (record { 0 = r }) chip.links) j ≡ Some wire
      → slice_get (entering_wires (record { 0 = r }) chip.links) k ≡ Some wire → j ≡ k
  once j k wire r first second =
      let router : RouterId = record { 0 = r } in
      let one = entering-is j wire r first in
      let two = entering-is k wire r second in
      let short = (delays one.number one.link one.is_link).0 in
      let long = (delays two.number two.link two.is_link).0 in
      let here = delay-there chip.links one.number one.link one.is_link in
      let there = delay-there chip.links two.number two.link two.is_link in
      let same = wire_at-apart chip.links (record { 0 = one.number }) (record { 0 = two.number })
      (delay_of chip.links (record { 0 = one.number }) - 1)
      (delay_of chip.links (record { 0 = two.number }) - 1)
      (slice_get_within chip.links one.number one.link one.is_link)
      (slice_get_within chip.links two.number two.link two.is_link)
      (omega (arith, short, here)) (omega (arith, long, there)) (one.is ∙ sym two.is) in
      numbers_from-once (ends_at (Router router)) 0 chip.links j k two.number
      (ap (slice_get (receives_on (Router router) chip.links)) refl
      ∙ one.at ∙ ap (λ (n : ℕ). Some n) same.0) two.at

  -- A stage stands between two wires.
  stage_reads-in : (m l : ℕ) → StartsBehind chip.links delays m l
      → end_of chip.links l ≡ AtStage l
  stage_reads-in m l (NoWire none same) =
      subst (λ (n : ℕ). end_of chip.links n ≡ AtStage n) same
      (ap (end_in chip.links m) none)
  stage_reads-in m l (Behind behind) =
      subst (λ (n : ℕ). end_of chip.links n ≡ AtStage n) behind.first
      (inner-ends chip.links delays behind.number behind.place behind.link behind.at behind.short)

  pub stage_reads : (m l : ℕ) → start_of chip.links m ≡ AtStage l
      → end_of chip.links l ≡ AtStage l
  stage_reads m l starts = stage_reads-in m l (starts_behind chip.links delays m l starts)

  -- No wire stands behind what is no wire.
  not_both : (m n l : ℕ) → wire_place chip.links m ≡ None → m ≡ l → FollowsIn chip.links l n → ⊥
  not_both m n l none same behind =
      let short = behind.short in
      let found = wire_place-at chip.links behind.number behind.place behind.link behind.at
      (omega (arith, short)) in
      none-some (behind.number, behind.place)
      (sym (ap (wire_place chip.links) (behind.first ∙ sym same) ∙ none) ∙ found)

  stage_once-in : (m n l : ℕ) → StartsBehind chip.links delays m l
      → StartsBehind chip.links delays n l → m ≡ n
  stage_once-in m n l (NoWire none same) (NoWire also too) = same ∙ sym too
  stage_once-in m n l (NoWire none same) (Behind two) = absurd (not_both m n l none same two)
  stage_once-in m n l (Behind one) (NoWire none same) = absurd (not_both n m l none same one)
  stage_once-in m n l (Behind one) (Behind two) =
      let here = delay-there chip.links one.number one.link one.at in
      let there = delay-there chip.links two.number two.link two.at in
      let short = one.short in
      let long = two.short in
      let same = wire_at-apart chip.links (record { 0 = one.number }) (record { 0 = two.number })
      one.place two.place (slice_get_within chip.links one.number one.link one.at)
      (slice_get_within chip.links two.number two.link two.at)
      (omega (arith, short, here)) (omega (arith, long, there)) (one.first ∙ sym two.first) in
      sym one.second ∙ (λ i. wire_at chip.links (same.0 i) (suc (same.1 i))) ∙ two.second

  pub stage_once : (m n l : ℕ) → start_of chip.links m ≡ AtStage l
      → start_of chip.links n ≡ AtStage l → m ≡ n
  stage_once m n l one two = stage_once-in m n l (starts_behind chip.links delays m l one)
      (starts_behind chip.links delays n l two)

  -- So a chip is wired, whatever passes over it.
  pub is_wired : (count : ℕ) (routed_session : ℕ → RoutedSession) (opposite : ℕ → ℕ)
      → IsWired (routed_sessions_on chip count routed_session opposite)
  is_wired count routed_session opposite = record {
    leaves = leaves;
    enters = enters;
    ports = ports;
    reaches = reaches;
    ends = ends;
    once = once;
    stage_reads = stage_reads;
    stage_once = stage_once;
  }
