-- Who receives on each wire of a chip, noted link by link and wire by wire.
use Rattle.std.proofs.Common.{ℕ, ◌≡◌, ◌+◌, ◌≤◌, ◌<◌, sym, ap, ◌∙◌, arith, inl, inr, List, length}
use Rattle.std.proofs.Common.{length-set, set, Some, slice_get}
use Rattle.std.proofs.lemmas.{Bool.cases_eq, List.Elements.All-set, Option.same_Some}
use Rattle.std.proofs.lemmas.{Option.slice_get_within}
use Rattle.std.specs.List.{All}
use Rattle.aeth_base.proofs.Lists.{slice_get-slice_set_same, slice_get-slice_set_other}
use Rattle.aeth_chip.specs.{Chip.ChipData, Chip.IsChip, Paths.delay_in, Paths.delay_of}
use Rattle.aeth_chip.specs.{Wires.wire_at, Wires.wires_of, declared.node.Link.Link}
use Rattle.aeth_chip.proofs.WireLemmas.{have_delays, wire_at-apart, wire_at-below}
use Rattle.aeth_components.specs.Components.{part_count}
use Rattle.aeth_components.specs.Ends.{AreReceivers, NotedTo, receiver_for}

module _ (chip : ChipData) (is_chip : IsChip chip) where
  -- Wires of links that are there are one only where the links and the places are.
  pub wires-apart : (l m i j : ℕ) (link other : Link) → slice_get chip.links l ≡ Some link
      → slice_get chip.links m ≡ Some other → i < link.delay → j < other.delay
      → wire_at chip.links l i ≡ wire_at chip.links m j → (l ≡ m) × (i ≡ j)
  wires-apart l m i j link other at there short short_too same =
      wire_at-apart chip.links (record { 0 = l }) (record { 0 = m }) i j
      (slice_get_within chip.links l link at) (slice_get_within chip.links m other there)
      (let is : delay_of chip.links (record { 0 = l }) ≡ link.delay = ap delay_in at in omega arith)
      (let is : delay_of chip.links (record { 0 = m }) ≡ other.delay = ap delay_in there in
      omega arith) same

  module _ (number : ℕ) (link : Link) (found : slice_get chip.links number ≡ Some link)
      (old : List ℕ) where
    pub NotedTo-more : (now : List ℕ) (to receiver : ℕ) → NotedTo chip number link old now to
        → to < link.delay → length old ≡ wires_of chip.links
        → receiver ≡ receiver_for chip number to link → receiver < part_count chip
        → NotedTo chip number link old (set now (wire_at chip.links number to) receiver) (to + 1)
    NotedTo-more now to receiver noted short wires is few =
        let wire = wire_at chip.links number to in
        let below = wire_at-below chip.links (have_delays chip is_chip) number to link found
        (slice_get_within chip.links number link found) short in
        let size = noted.size in
        record {
          size = length-set now wire receiver ∙ noted.size;
          at = λ place less. elim (cases_eq place to) [
            | inl same ↦
                ap (λ p. slice_get (set now wire receiver) (wire_at chip.links number p)) same
                ∙ slice_get-slice_set_same now wire receiver (omega arith)
                ∙ ap (λ (n : ℕ). Some n)
                (is ∙ ap (λ p. receiver_for chip number p link) (sym same))
            | inr other ↦
                slice_get-slice_set_other now wire (wire_at chip.links number place) receiver
                (λ one. other (wires-apart number number place to link link found found (omega arith)
                short one).1) ∙ noted.at place (omega arith)
          ];
          away = λ other none.
              slice_get-slice_set_other now wire other receiver (none to (omega arith))
              ∙ noted.away other (λ place less. none place (omega arith));
          below = All-set (λ number. number < part_count chip) now wire receiver few noted.below;
        }

  -- The wires of the first so many links have their receivers.
  pub record ReceiversTo (receivers : List ℕ) (to : ℕ) : Type 0 where
    pub size : length receivers ≡ wires_of chip.links
    pub at : (number place : ℕ) (link : Link) → number < to
        → slice_get chip.links number ≡ Some link → place < link.delay
        → slice_get receivers (wire_at chip.links number place)
        ≡ Some (receiver_for chip number place link)
    pub below : All (λ number. number < part_count chip) receivers

  pub ReceiversTo-more : (now new : List ℕ) (to : ℕ) (link : Link) → ReceiversTo now to
      → slice_get chip.links to ≡ Some link → NotedTo chip to link now new link.delay
      → ReceiversTo new (to + 1)
  ReceiversTo-more now new to link before found noted = record {
    size = noted.size ∙ before.size;
    at = λ number place other less at short. elim (cases_eq number to) [
      | inl same ↦
          let one : link ≡ other =
          same_Some link other (sym found ∙ ap (slice_get chip.links) (sym same) ∙ at) in
          rw (same, ← one) (noted.at place (rw one short))
      | inr apart_from ↦
          noted.away (wire_at chip.links number place) (λ behind short_too is.
          apart_from (wires-apart number to place behind other link at found short short_too is).0)
          ∙ before.at number place other (omega arith) at short
    ];
    below = noted.below;
  }

  pub ReceiversTo-all : (receivers : List ℕ) (to : ℕ) → ReceiversTo receivers to
      → length chip.links ≤ to → AreReceivers chip receivers
  ReceiversTo-all receivers to all over = record {
    size = all.size;
    at = λ number place link at short.
        let within = slice_get_within chip.links number link at in
        all.at number place link (omega arith) at short;
    below = all.below;
  }
