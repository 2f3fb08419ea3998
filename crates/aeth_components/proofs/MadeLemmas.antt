-- Laws of the components of a chip: they are wired.
use Rattle.std.proofs.Common.{ℕ, ◌≡◌, ◌<◌, ◌+◌, ◌-◌, refl, sym, ◌∙◌, ap, arith, List, [], ◌∷◌, ◌++◌}
use Rattle.std.proofs.Common.{length, map, get_or, Some, slice_get, true, inl, inr, eqb-true}
use Rattle.std.proofs.Common.{eq-eqb, ◌==◌, slice_index, ◌⊎◌, length-append, take_all}
use Rattle.std.proofs.lemmas.Bool.{cases_lt}
use Rattle.std.proofs.lemmas.List.FromFn.{length-map-range_with_len}
use Rattle.std.proofs.lemmas.Option.{slice_get-get_or, slice_get-map, slice_get_within, same_Some}
use Rattle.std.specs.{List.range_with_len, Option.option_map}
use Rattle.aeth_base.proofs.{Lists.item-at, Ranges.map-range-at}
use Rattle.aeth_chip.specs.Chip.{ChipData, IsChip, IsNode}
use Rattle.aeth_chip.specs.Nodes.{begins_at, receives_on, same_node, sends_on}
use Rattle.aeth_chip.specs.Wires.{HaveDelays, further_wires, wire_at, wires_of}
use Rattle.aeth_chip.specs.declared.node.Link.{Link}
use Rattle.aeth_chip.specs.declared.node.Node.{Node, TheVariants.Router, TheVariants.Ni}
use Rattle.aeth_chip.proofs.WireLemmas.{have_delays, wire_at-behind, wire_at-below, wires_of-split}
use Rattle.aeth_chip.proofs.NodeLemmas.{same_node-refl}
use Rattle.aeth_router.proofs.LinkLemmas.{is_among-from_passes, passes-from_is_among}
use Rattle.aeth_router.proofs.WireLemmas.{AreLinks-entering_wires}
use Rattle.aeth_router.specs.{Router.is_among, Router.last_wire, declared.part.Part.Part}
use Rattle.aeth_components.proofs.WiringLemmas.{from-map}
use Rattle.aeth_components.proofs.MadeParts.{StageAt, among-first, among-only, at-append}
use Rattle.aeth_components.proofs.MadeParts.{length-made_stages, part_number-below, same_node-place}
use Rattle.aeth_components.proofs.MadeParts.{stage-at}
use Rattle.aeth_components.specs.{Ends.part_number, Components.part_count, Wirings.Wiring}
use Rattle.aeth_components.specs.{Wirings.IsWired, Wirings.wiring_of, Wirings.receives_by}
use Rattle.aeth_components.specs.{Wirings.sends_by, Making.made_interface, Making.made_router}
use Rattle.aeth_components.specs.{Making.made_stage, Making.made_stages, Making.new_parts}
use Rattle.aeth_components.specs.{declared.making.RouterKind.TheVariants.ByHeader}

-- The component of a number is an interface, a router, or a stage.
pub data Made (chip : ChipData) (rooms : List ℕ) (i : ℕ) (part : Part) : Type 0 where
  IsInterface : i < length chip.nis → part ≡ made_interface chip rooms i → Made chip rooms i part
  IsRouter : (r : ℕ) → r < length chip.routers → i ≡ length chip.nis + r
      → part ≡ made_router chip ByHeader r → Made chip rooms i part
  IsStage : (k : ℕ) → k < further_wires chip.links
      → i ≡ length chip.nis + length chip.routers + k → StageAt chip.links k part
      → Made chip rooms i part

module _ (chip : ChipData) (rooms : List ℕ) where
  abbrev interfaces : List Part
  interfaces = map (made_interface chip rooms) (range_with_len 0 (length chip.nis))

  abbrev routers : List Part
  routers = map (made_router chip ByHeader) (range_with_len 0 (length chip.routers))

  length-interfaces : length interfaces ≡ length chip.nis
  length-interfaces = length-map-range_with_len (made_interface chip rooms) 0 (length chip.nis)

  length-both : length (interfaces ++ routers) ≡ length chip.nis + length chip.routers
  length-both =
      let first = length-interfaces in
      let second = length-map-range_with_len (made_router chip ByHeader) 0 (length chip.routers) in
      length-append interfaces routers ∙ omega arith

  -- As many stages as further wires.
  pub length-stages : length (made_stages chip.links (length chip.links)) ≡ further_wires chip.links
  length-stages =
      length-made_stages chip.links (length chip.links) (omega arith)
      ∙ ap further_wires (take_all (length chip.links) chip.links (omega arith))

  -- There are as many components as interfaces, routers and stages.
  pub length-new_parts : length (new_parts chip ByHeader rooms) ≡ part_count chip
  length-new_parts =
      let both = length-both in
      let stages = length-stages in
      length-append (interfaces ++ routers) (made_stages chip.links (length chip.links))
      ∙ omega arith

  pub part-at : (i : ℕ) (part : Part) → slice_get (new_parts chip ByHeader rooms) i ≡ Some part
      → Made chip rooms i part
  part-at i part at =
      let size = length-interfaces in
      let both = length-both in
      elim (at-append (interfaces ++ routers) (made_stages chip.links (length chip.links)) i part
      at) [
        | inl here ↦ elim (at-append interfaces routers i part here.1) [
          | inl first ↦
              let one =
              map-range-at (made_interface chip rooms) 0 (length chip.nis) i part first.1 in
              IsInterface one.0
              (one.1 ∙ ap (made_interface chip rooms) (let same : 0 + i ≡ i = omega arith in same))
          | inr second ↦
              let one =
              map-range-at (made_router chip ByHeader) 0 (length chip.routers) second.0 part
              second.2 in
              let place = second.1 in
              IsRouter second.0 one.0 (omega arith)
              (one.1 ∙ ap (made_router chip ByHeader)
              (let same : 0 + second.0 ≡ second.0 = omega arith in same))
        ]
        | inr later ↦
            let stages = length-stages in
            let within = slice_get_within (made_stages chip.links (length chip.links)) later.0 part
            later.2 in
            let place = later.1 in
            IsStage later.0 (omega arith) (omega arith)
            (stage-at chip.links (length chip.links) (omega arith) later.0 part later.2)
      ]

-- The wires of a stage.
module _ (links : List Link) (number : ℕ) (part : Part) (stage : StageAt links number part) where
  stage-own : sends_by (wiring_of part) (length links + number) ≡ true
  stage-own =
      let behind = wire_at-behind links stage.link (stage.place + 1) (λ none. omega arith) in
      let place = stage.number_is in
      ap (λ (part : Part). sends_by (wiring_of part) (length links + number)) stage.is
      ∙ eq-eqb (wire_at links stage.link (stage.place + 1)) (length links + number) (omega arith)

  stage-sends : (wire : ℕ) → sends_by (wiring_of part) wire ≡ true
      → wire ≡ length links + number
  stage-sends wire is =
      let sends : sends_by (wiring_of (made_stage links stage.link stage.place)) wire ≡ true =
      ap (λ (part : Part). sends_by (wiring_of part) wire) (sym stage.is) ∙ is in
      let same = eqb-true (wire_at links stage.link (stage.place + 1)) wire sends in
      let behind = wire_at-behind links stage.link (stage.place + 1) (λ none. omega arith) in
      let place = stage.number_is in
      omega arith

  stage-receives : (wire : ℕ) → HaveDelays links → receives_by (wiring_of part) wire ≡ true
      → wire < wires_of links
  stage-receives wire delays is =
      let receives : receives_by (wiring_of (made_stage links stage.link stage.place)) wire ≡ true =
      ap (λ (part : Part). receives_by (wiring_of part) wire) (sym stage.is) ∙ is in
      let same = eqb-true (wire_at links stage.link stage.place) wire receives in
      let short = stage.short in
      let below = wire_at-below links delays stage.link stage.place stage.found stage.at
      (slice_get_within links stage.link stage.found stage.at) (omega arith) in
      omega arith

-- On a wire sends the component at the place of its link's node, or the stage of its number.
abbrev pub SendsAt : ChipData → ℕ → ℕ → Type 0
SendsAt chip i wire =
    ((l : Link) × (slice_get chip.links wire ≡ Some l) × (part_number (length chip.nis) l.from ≡ i))
    ⊎ ((k : ℕ) × (k < further_wires chip.links) × (wire ≡ length chip.links + k)
    × (i ≡ length chip.nis + length chip.routers + k))

module _ (chip : ChipData) (is_chip : IsChip chip) (rooms : List ℕ) where
  interface-sends : (n wire : ℕ) → n < length chip.nis
      → sends_by (wiring_of (made_interface chip rooms n)) wire ≡ true → SendsAt chip n wire
  interface-sends n wire within is =
      let node : Node = Ni (record { 0 = n }) in
      let single = is_chip.single (record { 0 = n }) within in
      let among = among-only (sends_on node chip.links) single.leaving.0 wire single.sends is in
      let passes = passes-from_is_among (begins_at node) chip.links wire among in
      inl (passes.0, passes.1, same_node-place (length chip.nis) passes.0.from node passes.2)

  router-sends : (r wire : ℕ) → sends_by (wiring_of (made_router chip ByHeader r)) wire ≡ true
      → SendsAt chip (length chip.nis + r) wire
  router-sends r wire is =
      let node : Node = Router (record { 0 = r }) in
      let passes = passes-from_is_among (begins_at node) chip.links wire is in
      inl (passes.0, passes.1, same_node-place (length chip.nis) passes.0.from node passes.2)

  sends-at : (i wire : ℕ) (part : Part) → Made chip rooms i part
      → sends_by (wiring_of part) wire ≡ true → SendsAt chip i wire
  sends-at i wire part (IsInterface within is) sends =
      interface-sends i wire within
      (ap (λ (part : Part). sends_by (wiring_of part) wire) (sym is) ∙ sends)
  sends-at i wire part (IsRouter r within place is) sends =
      rw place (router-sends r wire
      (ap (λ (part : Part). sends_by (wiring_of part) wire) (sym is) ∙ sends))
  sends-at i wire part (IsStage k few place stage) sends =
      inr (k, few, stage-sends chip.links k part stage wire sends, place)

  interface-receives : (n wire : ℕ) → n < length chip.nis
      → receives_by (wiring_of (made_interface chip rooms n)) wire ≡ true
      → wire < wires_of chip.links
  interface-receives n wire within is =
      let links = chip.links in
      let node : Node = Ni (record { 0 = n }) in
      let single = is_chip.single (record { 0 = n }) within in
      let entering = single.entering.0 in
      let first : slice_index (receives_on node links) 0 ≡ entering = rw single.receives refl in
      let last : last_wire links entering ≡ wire_at links entering (single.back.delay - 1) =
      rw single.is_back refl in
      let same = eqb-true (last_wire links (slice_index (receives_on node links) 0)) wire is in
      let whole = ap (last_wire links) first in
      let delays = have_delays chip is_chip in
      let takes = delays entering single.back single.is_back in
      let below = wire_at-below links delays entering (single.back.delay - 1) single.back
      single.is_back (slice_get_within links entering single.back single.is_back)
      (let one = takes.0 in omega arith) in
      omega arith

  receives-below : (i wire : ℕ) (part : Part) → Made chip rooms i part
      → receives_by (wiring_of part) wire ≡ true → wire < wires_of chip.links
  receives-below i wire part (IsInterface within is) receives =
      interface-receives i wire within
      (ap (λ (part : Part). receives_by (wiring_of part) wire) (sym is) ∙ receives)
  receives-below i wire part (IsRouter r within place is) receives =
      AreLinks-entering_wires chip.links (have_delays chip is_chip) (record { 0 = r }) wire
      (ap (λ (part : Part). receives_by (wiring_of part) wire) (sym is) ∙ receives)
  receives-below i wire part (IsStage k few place stage) receives =
      stage-receives chip.links k part stage wire (have_delays chip is_chip) receives

  -- What it sends on is a wire.
  sends-below : (i wire : ℕ) → SendsAt chip i wire → wire < wires_of chip.links
  sends-below i wire (inl link) =
      let split = wires_of-split chip.links (have_delays chip is_chip) in
      let within = slice_get_within chip.links wire link.0 link.1 in
      omega arith
  sends-below i wire (inr further) =
      let split = wires_of-split chip.links (have_delays chip is_chip) in
      let few = further.1 in
      let is = further.2 in
      omega arith

  -- On each wire one component sends at most.
  sends-once : (i j wire : ℕ) → SendsAt chip i wire → SendsAt chip j wire → i ≡ j
  sends-once i j wire (inl link) (inl other) =
      let same : link.0 ≡ other.0 = same_Some link.0 other.0 (sym link.1 ∙ other.1) in
      sym link.2 ∙ ap (λ (l : Link). part_number (length chip.nis) l.from) same ∙ other.2
  sends-once i j wire (inl link) (inr further) =
      let within = slice_get_within chip.links wire link.0 link.1 in
      let is = further.2 in
      absurd (omega arith)
  sends-once i j wire (inr further) (inl link) =
      let within = slice_get_within chip.links wire link.0 link.1 in
      let is = further.2 in
      absurd (omega arith)
  sends-once i j wire (inr further) (inr other) =
      let is = further.2 in
      let at = further.3 in
      let is_too = other.2 in
      let at_too = other.3 in
      omega arith

  -- The component at the place of a link's node sends on the link.
  node-sends : (wire : ℕ) (link : Link) → slice_get chip.links wire ≡ Some link
      → (node : Node) → IsNode chip.routers chip.nis node → same_node link.from node ≡ true
      → (part : Part) → Made chip rooms (part_number (length chip.nis) node) part
      → sends_by (wiring_of part) wire ≡ true
  node-sends wire link at (Ni n) known same part (IsInterface within is) =
      let node : Node = Ni n in
      let single = is_chip.single n within in
      let among = is_among-from_passes (begins_at node) chip.links wire link at same in
      let only : is_among (single.leaving.0 ∷ []) wire ≡ true = rw single.sends at among in
      let leaves : (slice_index (sends_on node chip.links) 0 == wire) ≡ true =
      rw single.sends (among-first single.leaving.0 wire only) in
      rw is leaves
  node-sends wire link at (Ni n) known same part (IsRouter r within place is) =
      absurd (omega arith)
  node-sends wire link at (Ni n) known same part (IsStage k few place stage) =
      absurd (omega arith)
  node-sends wire link at (Router r) known same part (IsInterface within is) =
      absurd (omega arith)
  node-sends wire link at (Router r) known same part (IsRouter q within place is) =
      let node : Node = Router r in
      let among = is_among-from_passes (begins_at node) chip.links wire link at same in
      let one : q ≡ r.0 = omega arith in
      rw is (rw one among)
  node-sends wire link at (Router r) known same part (IsStage k few place stage) =
      absurd (omega arith)

  -- The stage of a further wire sends on it.
  further-sends : (k : ℕ) → k < further_wires chip.links → (part : Part)
      → Made chip rooms (length chip.nis + length chip.routers + k) part
      → sends_by (wiring_of part) (length chip.links + k) ≡ true
  further-sends k few part (IsInterface within is) = absurd (omega arith)
  further-sends k few part (IsRouter r within place is) = absurd (omega arith)
  further-sends k few part (IsStage n within place stage) =
      let same : n ≡ k = omega arith in
      rw (← same) (stage-own chip.links n part stage)

  -- So on each wire a component sends.
  owner : (wire : ℕ) → wire < wires_of chip.links
      → (i : ℕ) × (part : Part) × (slice_get (new_parts chip ByHeader rooms) i ≡ Some part)
      × (sends_by (wiring_of part) wire ≡ true)
  owner wire within =
      let size = length-new_parts chip rooms in
      elim (cases_lt wire (length chip.links)) [
        | inl first ↦
            let link = item-at chip.links wire first in
            let known = (is_chip.links wire link.0 link.1).from in
            let i = part_number (length chip.nis) link.0.from in
            let below = part_number-below chip.routers chip.nis link.0.from known in
            let part = item-at (new_parts chip ByHeader rooms) i (omega arith) in (
              i,
              part.0,
              part.1,
              node-sends wire link.0 link.1 link.0.from known (same_node-refl link.0.from) part.0
                  (part-at chip rooms i part.0 part.1),
            )
        | inr further ↦
            let split = wires_of-split chip.links (have_delays chip is_chip) in
            let k = wire - length chip.links in
            let i = length chip.nis + length chip.routers + k in
            let part = item-at (new_parts chip ByHeader rooms) i (omega arith) in
            let same : length chip.links + k ≡ wire = omega arith in
            let sends = further-sends k (omega arith) part.0 (part-at chip rooms i part.0 part.1) in
            (i, part.0, part.1, ap (sends_by (wiring_of part.0)) (sym same) ∙ sends)
      ]

  pub made-at : (i : ℕ) (wiring : Wiring)
      → slice_get (map wiring_of (new_parts chip ByHeader rooms)) i ≡ Some wiring
      → (part : Part) × (Made chip rooms i part) × (wiring ≡ wiring_of part)
  made-at i wiring at =
      let made = from-map wiring_of (new_parts chip ByHeader rooms) i wiring at in
      (made.0, part-at chip rooms i made.0 made.1, made.2)

  pub wiring-sends : (i wire : ℕ) (wiring : Wiring)
      → slice_get (map wiring_of (new_parts chip ByHeader rooms)) i ≡ Some wiring
      → sends_by wiring wire ≡ true → SendsAt chip i wire
  wiring-sends i wire wiring at sends =
      let made = made-at i wiring at in
      sends-at i wire made.0 made.1
      (ap (λ (wiring : Wiring). sends_by wiring wire) (sym made.2) ∙ sends)

  -- A chip's components are wired by its wires.
  pub IsWired-new : IsWired (map wiring_of (new_parts chip ByHeader rooms)) (wires_of chip.links)
  IsWired-new =
      let wirings = map wiring_of (new_parts chip ByHeader rooms) in
      record {
        outputs = λ i default within wire sends.
            sends-below i wire (wiring-sends i wire (get_or wirings i default)
            (slice_get-get_or wirings i default within) sends);
        inputs = λ i default within wire receives.
            let made = made-at i (get_or wirings i default)
            (slice_get-get_or wirings i default within) in
            receives-below i wire made.0 made.1
            (ap (λ (wiring : Wiring). receives_by wiring wire) (sym made.2) ∙ receives);
        disjoint = λ i j wire wiring other at there sends sends_too.
            sends-once i j wire (wiring-sends i wire wiring at sends)
            (wiring-sends j wire other there sends_too);
        owned = λ wire within.
            let part = owner wire within in (
              part.0,
              wiring_of part.1,
              slice_get-map wiring_of (new_parts chip ByHeader rooms) part.0
                  ∙ ap (option_map wiring_of) part.2,
              part.3,
            );
      }
