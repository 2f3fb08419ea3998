-- The components of a chip are those of routed sessions on it.
use Rattle.std.proofs.Common.{◌≡◌, ◌≤◌, ◌<◌, ◌∙◌, ℕ, suc, ◌+◌, ◌*◌, ◌-◌, refl, sym, ap, subst}
use Rattle.std.proofs.Common.{arith, true, List, Option, Some, None, drop, get_or, length, map}
use Rattle.std.proofs.Common.{replicate, slice_get, ◌==◌, slice_index, slice_range, eqb-true}
use Rattle.std.proofs.Common.{length-drop, length-take}
use Rattle.std.proofs.lemmas.List.{length-map, length-replicate}
use Rattle.std.proofs.lemmas.Option.{slice_get-get_or, slice_get_within}
use Rattle.aeth_base.specs.declared.ids.{LinkId.LinkId, NiId.NiId}
use Rattle.aeth_chip.proofs.NodeLemmas.{numbers_from-once, same_node-true}
use Rattle.aeth_chip.proofs.WireLemmas.{have_delays, wire_at-below, wires_of-split}
use Rattle.aeth_chip.specs.{Chip.ChipData, Chip.IsChip, Nodes.begins_at, Nodes.receives_on}
use Rattle.aeth_chip.specs.{Nodes.sends_on, Wires.wire_at, Wires.wires_of, declared.node.Link.Link}
use Rattle.aeth_chip.specs.{declared.node.Node.Node, declared.node.Node.TheVariants.Ni}
use Rattle.aeth_chip.specs.{declared.node.Node.TheVariants.Router}
use Rattle.aeth_ni.specs.{Limits.queues_of_interface, Queue.QueueState, Queue.empty_queue}
use Rattle.aeth_router.proofs.LinkLemmas.{is_among-at, passes-from_is_among, position-at}
use Rattle.aeth_router.specs.Router.{entering_wires, is_among, last_wire}
use Rattle.aeth_router.specs.declared.part.Part.{Part}
use Rattle.aeth_components.proofs.MadeLemmas.{IsInterface, IsRouter, IsStage, IsWired-new}
use Rattle.aeth_components.proofs.MadeLemmas.{length-new_parts, made-at}
use Rattle.aeth_components.proofs.MadeParts.{StageAt}
use Rattle.aeth_components.specs.Wirings.{Wiring, InterfaceWiring, wiring_of, sends_by}
use Rattle.aeth_components.specs.Making.{made_interface, made_router, made_stage, new_parts}
use Rattle.aeth_components.specs.declared.making.RouterKind.TheVariants.{ByHeader}
use Rattle.aeth_report.specs.Routes.{port_of}
use Rattle.aeth_routed_sessions.proofs.{WiredLemmas.port_at, WireEnds.first-starts}
use Rattle.aeth_routed_sessions.proofs.{WireEnds.further-starts, WirePlaces.wire_place-is}
use Rattle.aeth_routed_sessions.specs.Wiring.{routed_sessions_on, node_end, wire_place, start_in}
use Rattle.aeth_routed_sessions.specs.Wiring.{start_of}
use Rattle.aeth_invariant.specs.RoutedSessions.{AtInterface, AtRouter, AtStage, RoutedSessions}
use Rattle.aeth_invariant.specs.RoutedSessions.{RoutedSession}
use Rattle.aeth_stimuli.specs.OnChip.{IsOver}
use Rattle.aeth_refinement.specs.WiredFor.{HasSession, IsWiredFor, IsFrom, IsFromRouter}
use Rattle.aeth_refinement.specs.WiredFor.{IsFromStage}

module _ (chip : ChipData) (is_chip : IsChip chip) (rooms : List ℕ)
    (rooms_are : length rooms ≡ queues_of_interface * length chip.nis) where
  abbrev wirings : List Wiring
  wirings = map wiring_of (new_parts chip ByHeader rooms)

  abbrev links : List Link
  links = chip.links

  -- The entries and the queues of an interface at first.
  abbrev entries : ℕ → List (Option ℕ)
  entries slots = replicate slots None

  abbrev rooms-of : ℕ → List QueueState
  rooms-of n = map empty_queue
      (slice_range rooms (n * queues_of_interface) (n * queues_of_interface + queues_of_interface))

  -- The component that sends on a wire.
  data Sender (l : ℕ) : Type 0 where
    ByInterface : (n : ℕ) → start_of chip.links l ≡ AtInterface n → IsFrom wirings n l → Sender l
    ByRouter : (r : ℕ) → start_of chip.links l ≡ AtRouter r
        → IsFromRouter wirings (entering_wires (record { 0 = r }) chip.links)
        (port_of chip.links (record { 0 = l })) l → Sender l
    ByStage : (m : ℕ) → start_of chip.links l ≡ AtStage m → IsFromStage wirings m l → Sender l

  by-interface : (i l : ℕ) (wiring : Wiring) → slice_get wirings i ≡ Some wiring
      → i < length chip.nis
      → wiring ≡ wiring_of (made_interface chip rooms i) → sends_by wiring l ≡ true → Sender l
  by-interface i l wiring at within is sends =
      let node : Node = Ni (record { 0 = i }) in
      let single = is_chip.single (record { 0 = i }) within in
      let own : (slice_index (sends_on node links) 0 == l) ≡ true =
      ap (λ (f : Wiring). sends_by f l) (sym is) ∙ sends in
      let wire : slice_index (sends_on node links) 0 ≡ l =
      eqb-true (slice_index (sends_on node links) 0) l own in
      let leaving : single.leaving.0 ≡ l =
      sym (ap (λ (ls : List ℕ). slice_index ls 0) single.sends) ∙ wire in
      let among = is_among-at (sends_on node links) 0 l
      (ap (λ (ls : List ℕ). slice_get ls 0) single.sends ∙ ap (λ n. Some n) leaving) in
      let passes = passes-from_is_among (begins_at node) links l among in
      let from = same_node-true passes.0.from node passes.2 in
      ByInterface i
      (first-starts links (have_delays chip is_chip) l passes.0 passes.1 ∙ ap node_end from) (record {
        number = record { 0 = i };
        leaving = record { 0 = slice_index (sends_on node links) 0 };
        entering = record { 0 = last_wire links (slice_index (receives_on node links) 0) };
        slots = length (entries chip.slots);
        queues = length (rooms-of i);
        face = at ∙ ap (λ (f : Wiring). Some f) is;
        sends = wire;
      })

  by-router : (r i l : ℕ) (wiring : Wiring) → slice_get wirings i ≡ Some wiring
      → wiring ≡ wiring_of (made_router chip ByHeader r) → sends_by wiring l ≡ true → Sender l
  by-router r i l wiring at is sends =
      let node : Node = Router (record { 0 = r }) in
      let among : is_among (sends_on node links) l ≡ true =
      ap (λ (f : Wiring). sends_by f l) (sym is) ∙ sends in
      let passes = passes-from_is_among (begins_at node) links l among in
      let from = same_node-true passes.0.from node passes.2 in
      let port = port_at links l passes.0 (record { 0 = r }) passes.1 from in
      ByRouter r
      (first-starts links (have_delays chip is_chip) l passes.0 passes.1 ∙ ap node_end from) (record {
        place = i;
        outgoing = sends_on node links;
        face = at ∙ ap (λ (f : Wiring). Some f) is;
        sends = position-at (sends_on node links) (port_of links (record { 0 = l })) l
            (numbers_from-once (begins_at node) 0 links) port;
      })

  by-stage : (k i l : ℕ) (wiring : Wiring) (part : Part) → slice_get wirings i ≡ Some wiring
      → wiring ≡ wiring_of part → StageAt links k part → sends_by wiring l ≡ true → Sender l
  by-stage k i l wiring part at is stage sends =
      let same : wiring ≡ wiring_of (made_stage links stage.link stage.place) =
      is ∙ ap wiring_of stage.is in
      let own : (wire_at links stage.link (stage.place + 1) == l) ≡ true =
      ap (λ (f : Wiring). sends_by f l) (sym same) ∙ sends in
      let wire = eqb-true (wire_at links stage.link (stage.place + 1)) l own in
      let short = stage.short in
      let next : suc stage.place ≡ stage.place + 1 = omega arith in
      ByStage (wire_at links stage.link stage.place)
      (ap (start_of links) (sym (ap (wire_at links stage.link) next ∙ wire))
      ∙ further-starts links (have_delays chip is_chip) stage.link stage.place stage.found stage.at
      (omega (arith, short)))
      (record {
        place = i;
        input = record { 0 = wire_at links stage.link stage.place };
        output = record { 0 = wire_at links stage.link (stage.place + 1) };
        face = at ∙ ap (λ (f : Wiring). Some f) same;
        reads = refl;
        sends = wire;
      })

  sender-of : (l : ℕ) → l < wires_of links → Sender l
  sender-of l within =
      let owner = (IsWired-new chip is_chip rooms).owned l within in
      let made = made-at chip is_chip rooms owner.0 owner.1 owner.2 in
      elim made.1 [
        | IsInterface small is ↦
            by-interface owner.0 l owner.1 owner.2 small (made.2 ∙ ap wiring_of is) owner.3
        | IsRouter r small place is ↦
            by-router r owner.0 l owner.1 owner.2 (made.2 ∙ ap wiring_of is) owner.3
        | IsStage k small place stage ↦
            by-stage k owner.0 l owner.1 made.0 owner.2 made.2 stage owner.3
      ]

  -- The interface of a number stands at its place.
  pub face-at : (n : ℕ) → n < length chip.nis
      → slice_get wirings n ≡ Some (wiring_of (made_interface chip rooms n))
  face-at n within =
      let count = length-new_parts chip rooms in
      let size = length-map (new_parts chip ByHeader rooms) wiring_of in
      let default = wiring_of (made_interface chip rooms n) in
      let at = slice_get-get_or wirings n default (omega (arith, within, count, size)) in
      let made = made-at chip is_chip rooms n (get_or wirings n default) at in
      elim made.1 [
        | IsInterface small is ↦
            at ∙ ap (λ (f : Wiring). Some f) (made.2 ∙ ap wiring_of is)
        | IsRouter r small place is ↦ absurd (omega (arith, within, place))
        | IsStage k small place stage ↦ absurd (omega (arith, within, place))
      ]

  slots-are : (n : ℕ) (number : NiId) (leaving entering : LinkId) (slots queues : ℕ)
      → slice_get wirings n ≡ Some (InterfaceWiring number leaving entering slots queues)
      → slots ≡ chip.slots
  slots-are n number leaving entering slots queues at =
      let made = made-at chip is_chip rooms n _ at in
      elim made.1 [
        | IsInterface small is ↦
            let same : InterfaceWiring number leaving entering slots queues
            ≡ wiring_of (made_interface chip rooms n) = made.2 ∙ ap wiring_of is in
            let none : Option ℕ = None in
            let size : slots ≡ length (entries chip.slots) = cc same in
            size ∙ length-replicate chip.slots none
        | IsRouter r small place is ↦
            let same : InterfaceWiring number leaving entering slots queues
            ≡ wiring_of (made_router chip ByHeader r) = made.2 ∙ ap wiring_of is in
            absurd (cc same)
        | IsStage k small place stage ↦
            let same : InterfaceWiring number leaving entering slots queues
            ≡ wiring_of (made_stage links stage.link stage.place) =
            made.2 ∙ ap wiring_of stage.is in
            absurd (cc same)
      ]

  -- What is no wire starts at a stage of its own.
  past-wires : (l : ℕ) → wires_of links ≤ l → start_of links l ≡ AtStage l
  past-wires l past =
      let delays = have_delays chip is_chip in
      let cases : (o : Option (ℕ × ℕ)) → wire_place links l ≡ o → start_of links l ≡ AtStage l = elim [
        | None ↦ λ is. ap (start_in links l) is
        | Some p ↦ λ is.
            let of = wire_place-is links delays l p is in
            let below = wire_at-below links delays p.0 p.1 of.link of.is_link
            (slice_get_within links p.0 of.link of.is_link) of.short in
            let wire = of.is in
            let split = wires_of-split links delays in
            absurd (omega (arith, past, below, wire, split))
      ] in
      cases (wire_place links l) refl

  -- As many queues as an interface has.
  pub queues-are : (n : ℕ) → n < length chip.nis → length (rooms-of n) ≡ queues_of_interface
  queues-are n within =
      let from = n * queues_of_interface in
      let some = slice_range rooms from (from + queues_of_interface) in
      let all = length-map some empty_queue in
      let first = length-take ((from + queues_of_interface) - from) (drop from rooms) in
      let left = length-drop from rooms in
      omega (arith, all, first, left, within, rooms_are)

  module _ (count : ℕ) (routed_session : ℕ → RoutedSession) (opposite : ℕ → ℕ)
      (over : IsOver (routed_sessions_on chip count routed_session opposite) chip) where
    abbrev sessions : RoutedSessions
    sessions = routed_sessions_on chip count routed_session opposite

    -- An interface with a session's queue.
    session-at : (c : ℕ) → c < sessions.count → HasSession sessions wirings c
    session-at c h =
        let n = (sessions.routed_session c).ni in
        let node : Node = Ni (record { 0 = n }) in
        let queue = over.queue c h in
        let queues = queues-are n (over.ni c h) in
        record {
          number = record { 0 = n };
          leaving = record { 0 = slice_index (sends_on node links) 0 };
          entering = record { 0 = last_wire links (slice_index (receives_on node links) 0) };
          slots = length (entries chip.slots);
          queues = length (rooms-of n);
          face = face-at n (over.ni c h);
          within = omega (arith, queue, queues);
          enters = refl;
        }

    interface-at : (l n : ℕ) → l < wires_of links → sessions.start l ≡ AtInterface n
        → IsFrom wirings n l
    interface-at l n within starts = elim (sender-of l within) [
      | ByInterface m start from ↦
          let same : AtInterface m ≡ AtInterface n = sym start ∙ starts in
          let number : m ≡ n = cc same in
          subst (λ k. IsFrom wirings k l) number from
      | ByRouter r start from ↦
          let same : AtRouter r ≡ AtInterface n = sym start ∙ starts in
          absurd (cc same)
      | ByStage m start from ↦
          let same : AtStage m ≡ AtInterface n = sym start ∙ starts in
          absurd (cc same)
    ]

    router-at : (l r : ℕ) → l < wires_of links → sessions.start l ≡ AtRouter r
        → IsFromRouter wirings (sessions.incoming r) (sessions.port l) l
    router-at l r within starts = elim (sender-of l within) [
      | ByInterface m start from ↦
          let same : AtInterface m ≡ AtRouter r = sym start ∙ starts in
          absurd (cc same)
      | ByRouter q start from ↦
          let same : AtRouter q ≡ AtRouter r = sym start ∙ starts in
          let number : q ≡ r = cc same in
          subst (λ k. IsFromRouter wirings (entering_wires (record { 0 = k }) links)
          (port_of links (record { 0 = l })) l) number from
      | ByStage m start from ↦
          let same : AtStage m ≡ AtRouter r = sym start ∙ starts in
          absurd (cc same)
    ]

    stage-at : (l m : ℕ) → l < wires_of links → sessions.start l ≡ AtStage m
        → IsFromStage wirings m l
    stage-at l m within starts = elim (sender-of l within) [
      | ByInterface n start from ↦
          let same : AtInterface n ≡ AtStage m = sym start ∙ starts in
          absurd (cc same)
      | ByRouter r start from ↦
          let same : AtRouter r ≡ AtStage m = sym start ∙ starts in
          absurd (cc same)
      | ByStage k start from ↦
          let same : AtStage k ≡ AtStage m = sym start ∙ starts in
          let number : k ≡ m = cc same in
          subst (λ n. IsFromStage wirings n l) number from
    ]

    pub wired_for : IsWiredFor sessions wirings (wires_of links)
    wired_for = record {
      slots = λ n number leaving entering slots queues at.
          slots-are n number leaving entering slots queues at;
      session = session-at;
      interface = interface-at;
      router = router-at;
      stage = stage-at;
      past = past-wires;
    }
