-- On each wire of a chip a component receives, and none receives on a wire twice.
use Rattle.std.proofs.Common.{ℕ, ◌≡◌, ◌<◌, ◌+◌, ◌-◌, refl, sym, ◌∙◌, ap, arith, List, [], ◌∷◌}
use Rattle.std.proofs.Common.{length, map, get_or, Some, slice_get, true, inl, inr, eq-eqb}
use Rattle.std.proofs.Common.{eqb-true, slice_index}
use Rattle.std.proofs.lemmas.Bool.{cases_eq, cases_lt}
use Rattle.std.proofs.lemmas.Option.{slice_get-get_or, slice_get-map}
use Rattle.std.specs.Option.{option_map}
use Rattle.aeth_base.proofs.Lists.{item-at, map-slice_get}
use Rattle.aeth_base.proofs.Members.{Contains-list_any, Contains-map, list_any-Contains}
use Rattle.aeth_chip.specs.Chip.{ChipData, IsChip, IsNode}
use Rattle.aeth_chip.specs.Nodes.{ends_at, receives_on, same_node}
use Rattle.aeth_chip.specs.Wires.{wire_at, wires_of}
use Rattle.aeth_chip.specs.declared.node.Link.{Link}
use Rattle.aeth_chip.specs.declared.node.Node.{Node, TheVariants.Ni, TheVariants.Router}
use Rattle.aeth_chip.proofs.NodeLemmas.{numbers_from-once, receives_on-found, same_node-refl}
use Rattle.aeth_chip.proofs.WireLemmas.{further_wires-within, have_delays, wire_at-behind}
use Rattle.aeth_chip.proofs.WireLemmas.{wires_of-split}
use Rattle.aeth_router.specs.Router.{AreDistinctLinks, is_among, last_wire}
use Rattle.aeth_router.specs.declared.part.Part.{Part}
use Rattle.aeth_router.proofs.{LinkLemmas.is_among-from_passes, WireLemmas.last_wire-is}
use Rattle.aeth_components.specs.{Components.part_count, Ends.AreReceived, Ends.part_number}
use Rattle.aeth_components.specs.{Ends.receiver_for, Ends.stage_number, Wirings.AreInputsApart}
use Rattle.aeth_components.specs.{Wirings.wiring_of, Wirings.receives_by, Making.made_stages}
use Rattle.aeth_components.specs.{Making.new_parts, declared.making.RouterKind.TheVariants.ByHeader}
use Rattle.aeth_components.proofs.EndLemmas.{ReceivesAt, last-receiver, stage-receiver}
use Rattle.aeth_components.proofs.MadeLemmas.{Made, IsInterface, IsRouter, IsStage}
use Rattle.aeth_components.proofs.MadeLemmas.{length-new_parts, length-stages, made-at, part-at}
use Rattle.aeth_components.proofs.MadeParts.{among-first, part_number-below, stage-at}
use Rattle.aeth_components.proofs.ReceiverLemmas.{wires-apart}

-- The image of one of the numbers is among their images.
is_among-map : (change : ℕ → ℕ) (numbers : List ℕ) (number : ℕ)
    → is_among numbers number ≡ true → is_among (map change numbers) (change number) ≡ true
is_among-map change numbers number among =
    Contains-list_any (map change numbers) (change number)
    (Contains-map change numbers number (list_any-Contains numbers number among))

module _ (chip : ChipData) (is_chip : IsChip chip) (rooms : List ℕ) where
  -- Each wire of a link has a receiver.
  link-received : (number place wire : ℕ) (link : Link) → slice_get chip.links number ≡ Some link
      → place < link.delay → wire ≡ wire_at chip.links number place
      → (i : ℕ) × ReceivesAt chip i wire
  link-received number place wire link at short is = (
    receiver_for chip number place link,
    record {
      number = number;
      place = place;
      link = link;
      at = at;
      short = short;
      is = is;
      number_is = refl;
    },
  )

  -- Each wire is one of a link.
  wire-received : (wire : ℕ) → wire < wires_of chip.links → (i : ℕ) × ReceivesAt chip i wire
  wire-received wire within =
      elim (cases_lt wire (length chip.links)) [
        | inl first ↦
            let link = item-at chip.links wire first in
            let takes = (have_delays chip is_chip wire link.0 link.1).0 in
            link-received wire 0 wire link.0 link.1 (omega arith) refl
        | inr further ↦
            let split = wires_of-split chip.links (have_delays chip is_chip) in
            let stages = length-stages chip rooms in
            let k = wire - length chip.links in
            let part = item-at (made_stages chip.links (length chip.links)) k (omega arith) in
            let stage = stage-at chip.links (length chip.links) (omega arith) k part.0 part.1 in
            let behind = wire_at-behind chip.links stage.link (stage.place + 1) (λ none. omega arith) in
            let place = stage.number_is in
            link-received stage.link (stage.place + 1) wire stage.found stage.at stage.short
            (omega arith)
      ]

  -- The component of a number is there.
  made-below : (i number : ℕ) → number ≡ i → number < part_count chip
      → (part : Part) × (slice_get (new_parts chip ByHeader rooms) i ≡ Some part)
      × Made chip rooms number part
  made-below i number same below =
      let size = length-new_parts chip rooms in
      let part = item-at (new_parts chip ByHeader rooms) i (omega arith) in (
        part.0,
        part.1,
        part-at chip rooms number part.0
            (ap (slice_get (new_parts chip ByHeader rooms)) same ∙ part.1),
      )

  -- The component of a link's last node receives on the link's last wire.
  node-received : (number : ℕ) (link : Link) → slice_get chip.links number ≡ Some link
      → (node : Node) → IsNode chip.routers chip.nis node → same_node link.to node ≡ true
      → (part : Part) → Made chip rooms (part_number (length chip.nis) node) part
      → receives_by (wiring_of part) (last_wire chip.links number) ≡ true
  node-received number link at (Ni n) known same part (IsInterface within is) =
      let node : Node = Ni n in
      let single = is_chip.single n within in
      let among = is_among-from_passes (ends_at node) chip.links number link at same in
      let only : is_among (single.entering.0 ∷ []) number ≡ true = rw single.receives at among in
      let enters : slice_index (receives_on node chip.links) 0 ≡ number =
      rw single.receives (eqb-true single.entering.0 number
      (among-first single.entering.0 number only)) in
      rw is (eq-eqb (last_wire chip.links (slice_index (receives_on node chip.links) 0))
      (last_wire chip.links number) (ap (last_wire chip.links) enters))
  node-received number link at (Ni n) known same part (IsRouter r within place is) =
      absurd (omega arith)
  node-received number link at (Ni n) known same part (IsStage k few place stage) =
      absurd (omega arith)
  node-received number link at (Router r) known same part (IsInterface within is) =
      absurd (omega arith)
  node-received number link at (Router r) known same part (IsRouter q within place is) =
      let node : Node = Router r in
      let among = is_among-from_passes (ends_at node) chip.links number link at same in
      let one : q ≡ r.0 = omega arith in
      rw is (rw one (is_among-map (last_wire chip.links) (receives_on node chip.links) number among))
  node-received number link at (Router r) known same part (IsStage k few place stage) =
      absurd (omega arith)

  -- The stage behind a wire receives on it.
  stage-received : (number place wire : ℕ) (link : Link) → slice_get chip.links number ≡ Some link
      → place + 1 < link.delay → wire ≡ wire_at chip.links number place
      → (part : Part) → Made chip rooms
      (stage_number chip (wire_at chip.links number (place + 1))) part
      → receives_by (wiring_of part) wire ≡ true
  stage-received number place wire link at short on part (IsInterface within is) =
      let behind = wire_at-behind chip.links number (place + 1) (λ none. omega arith) in
      absurd (omega arith)
  stage-received number place wire link at short on part (IsRouter r within is_at is) =
      let behind = wire_at-behind chip.links number (place + 1) (λ none. omega arith) in
      absurd (omega arith)
  stage-received number place wire link at short on part (IsStage k few is_at stage) =
      let behind = wire_at-behind chip.links number (place + 1) (λ none. omega arith) in
      let behind_too = wire_at-behind chip.links stage.link (stage.place + 1) (λ none. omega arith) in
      let is = stage.number_is in
      let short_too = stage.short in
      let one = wires-apart chip is_chip stage.link number (stage.place + 1) (place + 1) stage.found
      link stage.at at short_too short (omega arith) in
      let same : stage.place ≡ place = let both = one.1 in omega arith in
      ap (λ (part : Part). receives_by (wiring_of part) wire) stage.is
      ∙ eq-eqb (wire_at chip.links stage.link stage.place) wire
      (ap (λ l. wire_at chip.links l stage.place) one.0 ∙ ap (wire_at chip.links number) same ∙ sym on)

  -- The component that is to receive on a wire is there, and receives on it.
  receiver-received : (i wire : ℕ) → ReceivesAt chip i wire
      → (part : Part) × (slice_get (new_parts chip ByHeader rooms) i ≡ Some part)
      × (receives_by (wiring_of part) wire ≡ true)
  receiver-received i wire end =
      let links = chip.links in
      let node = end.link.to in
      let short = end.short in
      elim (cases_eq (end.place + 1) end.link.delay) [
        | inl last ↦
            let known = (is_chip.links end.number end.link end.at).to in
            let below = part_number-below chip.routers chip.nis node known in
            let place : end.place ≡ end.link.delay - 1 = omega arith in
            let part = made-below i (part_number (length chip.nis) node)
            (sym (last-receiver chip end.number end.link (omega arith))
            ∙ ap (λ n. receiver_for chip end.number n end.link) (sym place) ∙ end.number_is)
            (omega arith) in
            let is : wire ≡ last_wire links end.number =
            end.is ∙ ap (wire_at links end.number) place
            ∙ sym (last_wire-is links end.number end.link end.at) in (
              part.0,
              part.1,
              ap (receives_by (wiring_of part.0)) is
                  ∙ node-received end.number end.link end.at node known (same_node-refl node) part.0
                  part.2,
            )
        | inr inner ↦
            let behind = wire_at-behind links end.number (end.place + 1) (λ none. omega arith) in
            let among = further_wires-within links end.number end.link end.at in
            let part = made-below i (stage_number chip (wire_at links end.number (end.place + 1)))
            (sym (stage-receiver chip end.number end.place end.link inner) ∙ end.number_is)
            (omega arith) in (
              part.0,
              part.1,
              stage-received end.number end.place wire end.link end.at (omega arith) end.is part.0
                  part.2,
            )
      ]

  -- Two links on which a node receives have two last wires.
  last_wires-apart : (node : Node)
      → AreDistinctLinks (map (last_wire chip.links) (receives_on node chip.links))
  last_wires-apart node i j wire at there =
      let links = chip.links in
      let one = map-slice_get (last_wire links) (receives_on node links) i wire at in
      let other = map-slice_get (last_wire links) (receives_on node links) j wire there in
      let first = receives_on-found links node i one.0 one.1 in
      let second = receives_on-found links node j other.0 other.1 in
      let takes = (have_delays chip is_chip one.0 first.link first.at).0 in
      let takes_too = (have_delays chip is_chip other.0 second.link second.at).0 in
      let same = wires-apart chip is_chip one.0 other.0 (first.link.delay - 1)
      (second.link.delay - 1) first.link second.link first.at second.at (omega arith) (omega arith)
      (sym (last_wire-is links one.0 first.link first.at) ∙ one.2 ∙ sym other.2
      ∙ last_wire-is links other.0 second.link second.at) in
      numbers_from-once (ends_at node) 0 links i j one.0 one.1
      (other.1 ∙ ap (λ (n : ℕ). Some n) (sym same.0))

  inputs-apart : (i : ℕ) (part : Part) → Made chip rooms i part → AreInputsApart (wiring_of part)
  inputs-apart i part (IsInterface within is) = rw is tt
  inputs-apart i part (IsRouter r within place is) =
      rw is (last_wires-apart (Router (record { 0 = r })))
  inputs-apart i part (IsStage k few place stage) = rw stage.is tt

  -- A component receives on each wire, and none receives on a wire twice.
  pub AreReceived-new : AreReceived (map wiring_of (new_parts chip ByHeader rooms))
      (wires_of chip.links)
  AreReceived-new =
      let wirings = map wiring_of (new_parts chip ByHeader rooms) in
      record {
        some = λ wire within.
            let end = wire-received wire within in
            let part = receiver-received end.0 wire end.1 in (
              end.0,
              wiring_of part.0,
              slice_get-map wiring_of (new_parts chip ByHeader rooms) end.0
                  ∙ ap (option_map wiring_of) part.1,
              part.2,
            );
        apart = λ i default within.
            let made = made-at chip is_chip rooms i (get_or wirings i default)
            (slice_get-get_or wirings i default within) in
            rw made.2 (inputs-apart i made.0 made.1);
      }
