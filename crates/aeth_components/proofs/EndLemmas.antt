-- The components at the ends of a chip's wires are those that send and receive there.
use Rattle.std.proofs.Common.{ℕ, ◌≡◌, ◌≢◌, ◌<◌, ◌+◌, ◌-◌, refl, sym, ◌∙◌, ap, arith, subst, List}
use Rattle.std.proofs.Common.{length, map, Some, slice_get, true, inl, inr, eqb-true, eq-eqb}
use Rattle.std.proofs.Common.{ne_eqb, slice_index}
use Rattle.std.proofs.lemmas.List.{length-map}
use Rattle.std.specs.List.{All}
use Rattle.aeth_chip.specs.{Chip.ChipData, Chip.IsChip, Nodes.ends_at, Nodes.receives_on}
use Rattle.aeth_chip.specs.{Wires.wire_at, declared.node.Link.Link, declared.node.Node.Node}
use Rattle.aeth_chip.specs.{declared.node.Node.TheVariants.Ni}
use Rattle.aeth_chip.specs.{declared.node.Node.TheVariants.Router}
use Rattle.aeth_chip.proofs.WireLemmas.{have_delays, wire_at-behind}
use Rattle.aeth_router.specs.{Router.is_among, Router.last_wire, declared.part.Part.Part}
use Rattle.aeth_router.proofs.LinkLemmas.{is_among-at, passes-from_is_among}
use Rattle.aeth_router.proofs.WireLemmas.{map-is_among}
use Rattle.aeth_components.specs.Components.{part_count}
use Rattle.aeth_components.specs.Ends.{AreReceivers, AreSenders, IsAtEnds, part_number}
use Rattle.aeth_components.specs.Ends.{receiver_for, stage_number}
use Rattle.aeth_components.specs.Wirings.{Wiring, wiring_of, receives_by, sends_by}
use Rattle.aeth_components.specs.Making.{made_interface, made_router, made_stage, new_parts}
use Rattle.aeth_components.specs.declared.making.RouterKind.TheVariants.{ByHeader}
use Rattle.aeth_components.proofs.MadeParts.{StageAt, same_node-place}
use Rattle.aeth_components.proofs.MadeLemmas.{Made, IsInterface, IsRouter, IsStage, wiring-sends}
use Rattle.aeth_components.proofs.MadeLemmas.{length-new_parts, made-at}

-- A wire of a link, and the component that receives on it.
pub record ReceivesAt (chip : ChipData) (i wire : ℕ) : Type 0 where
  pub number : ℕ
  pub place : ℕ
  pub link : Link
  pub at : slice_get chip.links number ≡ Some link
  pub short : place < link.delay
  pub is : wire ≡ wire_at chip.links number place
  pub number_is : receiver_for chip number place link ≡ i

-- The component at the end of a link receives on its last wire.
pub last-receiver : (chip : ChipData) (number : ℕ) (link : Link) → 0 < link.delay
    → receiver_for chip number (link.delay - 1) link ≡ part_number (length chip.nis) link.to
last-receiver chip number link some =
    let last = eq-eqb (link.delay - 1 + 1) link.delay (omega arith) in
    rw last refl

-- A stage receives on each other one.
pub stage-receiver : (chip : ChipData) (number place : ℕ) (link : Link) → place + 1 ≢ link.delay
    → receiver_for chip number place link
    ≡ stage_number chip (wire_at chip.links number (place + 1))
stage-receiver chip number place link before =
    let other = ne_eqb (place + 1) link.delay before in
    rw other refl

module _ (chip : ChipData) (is_chip : IsChip chip) (rooms : List ℕ) where
  -- A node at which a link ends receives on the link's last wire.
  node-receives : (node : Node) (number wire : ℕ)
      → is_among (receives_on node chip.links) number ≡ true → last_wire chip.links number ≡ wire
      → ReceivesAt chip (part_number (length chip.nis) node) wire
  node-receives node number wire among is =
      let passes = passes-from_is_among (ends_at node) chip.links number among in
      let link = passes.0 in
      let some : 0 < link.delay =
      (let takes = (have_delays chip is_chip number link passes.1).0 in omega arith) in
      let last : last_wire chip.links number ≡ wire_at chip.links number (link.delay - 1) =
      rw passes.1 refl in
      record {
        number = number;
        place = link.delay - 1;
        link = link;
        at = passes.1;
        short = omega arith;
        is = sym is ∙ last;
        number_is = last-receiver chip number link some
            ∙ same_node-place (length chip.nis) link.to node passes.2;
      }

  interface-end : (n wire : ℕ) → n < length chip.nis
      → receives_by (wiring_of (made_interface chip rooms n)) wire ≡ true → ReceivesAt chip n wire
  interface-end n wire within is =
      let node : Node = Ni (record { 0 = n }) in
      let single = is_chip.single (record { 0 = n }) within in
      let links = receives_on node chip.links in
      let first : slice_get links 0 ≡ Some single.entering.0 = rw single.receives refl in
      let only : slice_index links 0 ≡ single.entering.0 = rw single.receives refl in
      node-receives node single.entering.0 wire (is_among-at links 0 single.entering.0 first)
      (ap (last_wire chip.links) (sym only)
      ∙ eqb-true (last_wire chip.links (slice_index links 0)) wire is)

  router-end : (r wire : ℕ) → receives_by (wiring_of (made_router chip ByHeader r)) wire ≡ true
      → ReceivesAt chip (length chip.nis + r) wire
  router-end r wire is =
      let node : Node = Router (record { 0 = r }) in
      let found = map-is_among (last_wire chip.links) (receives_on node chip.links) wire is in
      node-receives node found.0 wire found.1 found.2

  stage-end : (k wire : ℕ) (part : Part) → StageAt chip.links k part
      → receives_by (wiring_of part) wire ≡ true
      → ReceivesAt chip (length chip.nis + length chip.routers + k) wire
  stage-end k wire part stage is =
      let receives : receives_by (wiring_of (made_stage chip.links stage.link stage.place)) wire
      ≡ true = ap (λ (part : Part). receives_by (wiring_of part) wire) (sym stage.is) ∙ is in
      let behind = wire_at-behind chip.links stage.link (stage.place + 1) (λ none. omega arith) in
      let place = stage.number_is in
      let short = stage.short in
      record {
        number = stage.link;
        place = stage.place;
        link = stage.found;
        at = stage.at;
        short = omega arith;
        is = sym (eqb-true (wire_at chip.links stage.link stage.place) wire receives);
        number_is = stage-receiver chip stage.link stage.place stage.found (λ last. omega arith)
            ∙ omega arith;
      }

  receives-at : (i wire : ℕ) (part : Part) → Made chip rooms i part
      → receives_by (wiring_of part) wire ≡ true → ReceivesAt chip i wire
  receives-at i wire part (IsInterface within is) receives =
      interface-end i wire within
      (ap (λ (part : Part). receives_by (wiring_of part) wire) (sym is) ∙ receives)
  receives-at i wire part (IsRouter r within place is) receives =
      rw place (router-end r wire
      (ap (λ (part : Part). receives_by (wiring_of part) wire) (sym is) ∙ receives))
  receives-at i wire part (IsStage k few place stage) receives =
      rw place (stage-end k wire part stage receives)

  -- As many wirings as components.
  length-wirings : length (map wiring_of (new_parts chip ByHeader rooms)) ≡ part_count chip
  length-wirings = length-map (new_parts chip ByHeader rooms) wiring_of
      ∙ length-new_parts chip rooms

  -- Each component sends on its outputs alone.
  pub IsAtEnds-senders : (senders : List ℕ) → AreSenders chip senders
      → IsAtEnds sends_by (map wiring_of (new_parts chip ByHeader rooms)) senders
  IsAtEnds-senders senders are = record {
    at = λ wire i wiring at sends. elim (wiring-sends chip is_chip rooms i wire wiring at sends) [
      | inl link ↦ are.first wire link.0 link.1 ∙ ap (λ (n : ℕ). Some n) link.2
      | inr further ↦
          let k = further.0 in
          let place = further.3 in
          let number : stage_number chip (length chip.links + k) ≡ i = omega arith in
          ap (slice_get senders) further.2 ∙ are.further k further.1
          ∙ ap (λ (n : ℕ). Some n) number
    ];
    below = subst (λ n. All (λ number. number < n) senders) (sym length-wirings) are.below;
  }

  -- And receives on its inputs alone.
  pub IsAtEnds-receivers : (receivers : List ℕ) → AreReceivers chip receivers
      → IsAtEnds receives_by (map wiring_of (new_parts chip ByHeader rooms)) receivers
  IsAtEnds-receivers receivers are = record {
    at = λ wire i wiring at receives.
        let made = made-at chip is_chip rooms i wiring at in
        let end = receives-at i wire made.0 made.1
        (ap (λ (wiring : Wiring). receives_by wiring wire) (sym made.2) ∙ receives) in
        ap (slice_get receivers) end.is
        ∙ are.at end.number end.place end.link end.at end.short
        ∙ ap (λ (n : ℕ). Some n) end.number_is;
    below = subst (λ n. All (λ number. number < n) receivers) (sym length-wirings) are.below;
  }
