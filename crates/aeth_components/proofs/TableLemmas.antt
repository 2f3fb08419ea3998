-- The slot tables of components: what keeps them, and what they are at first.
use Rattle.std.proofs.Common.{ℕ, ◌≡◌, ◌∙◌, refl, sym, ap, arith, subst, inl, inr, List, [], false}
use Rattle.std.proofs.Common.{is_some, length, length-set, map, Option, Some, None, replicate}
use Rattle.std.proofs.Common.{slice_get, true, ◌⊎◌, slice_set}
use Rattle.std.proofs.lemmas.{Bool.cases_eq, Bool.cases_lt, List.get_or_past, List.length-map}
use Rattle.std.proofs.lemmas.{List.length-replicate, Option.slice_get_past}
use Rattle.std.specs.List.{slice_index_or}
use Rattle.aeth_base.{specs.Marks.bit_of, proofs.Lists.item-at, proofs.Lists.map-at}
use Rattle.aeth_base.{proofs.Lists.slice_get-slice_set_other, proofs.Lists.slice_get-slice_set_same}
use Rattle.aeth_chip.specs.Chip.{ChipData, IsChip}
use Rattle.aeth_ni.specs.{Queue.QueueState, Queue.empty_queue, Sending.emitted, Interface.changed}
use Rattle.aeth_router.proofs.TableLemmas.{get_or-same}
use Rattle.aeth_router.specs.declared.part.Part.{Part}
use Rattle.aeth_router.specs.declared.part.Part.TheVariants.{Interface, Router, Stage, TableRouter}
use Rattle.aeth_components.specs.{Changes.on_interface, Components.part_count, Ends.is_interface}
use Rattle.aeth_components.specs.{Wirings.wiring_of, Injecting.AreInjecting, Injecting.HasPlaces}
use Rattle.aeth_components.specs.{Injecting.entries_of, Injecting.entry_at, Injecting.may_send}
use Rattle.aeth_components.specs.{Injecting.table_at, SlotMarks.marks_at, View.queue_in}
use Rattle.aeth_components.specs.{declared.injecting.Injecting.Injecting, Making.new_parts}
use Rattle.aeth_components.specs.{declared.making.RouterKind.TheVariants.ByHeader}
use Rattle.aeth_components.proofs.CycleLemmas.{views-slice_set}
use Rattle.aeth_components.proofs.WiringLemmas.{from-map}
use Rattle.aeth_components.proofs.InjectingLemmas.{entry-within, entry_at-parts, table_at-parts}
use Rattle.aeth_components.proofs.MadeLemmas.{Made, IsInterface, IsRouter, IsStage}
use Rattle.aeth_components.proofs.MadeLemmas.{length-new_parts, part-at}

-- A change of a queue changes no table.
pub entries-changed : (queue : ℕ) (change : QueueState → QueueState) (part : Part)
    → entries_of (on_interface (changed queue change) part) ≡ entries_of part
entries-changed queue change (Interface ni) = refl
entries-changed queue change (Router router) = refl
entries-changed queue change (TableRouter router) = refl
entries-changed queue change (Stage stage) = refl

-- Only an interface has one, so another component in place of one keeps the tables.
entries-other : (part : Part) → is_interface (wiring_of part) ≡ false → entries_of part ≡ []
entries-other (Interface ni) other = absurd (cc other)
entries-other (Router router) other = refl
entries-other (TableRouter router) other = refl
entries-other (Stage stage) other = refl

pub tables-replaced : (parts : List Part) (number : ℕ) (part : Part)
    → is_interface (wiring_of part) ≡ false
    → slice_get (map wiring_of parts) number ≡ Some (wiring_of part)
    → map entries_of (slice_set parts number part) ≡ map entries_of parts
tables-replaced parts number part other at =
    let found = from-map wiring_of parts number (wiring_of part) at in
    views-slice_set entries_of parts number part
    (map-at entries_of parts number found.0 found.1
    ∙ ap (λ (table : List (Option ℕ)). Some table)
    (entries-other found.0 (ap is_interface (sym found.2) ∙ other)
    ∙ sym (entries-other part other)))

-- It has no queue, and nothing to send.
may_send-other : (part : Part) → is_interface (wiring_of part) ≡ false → (queue : ℕ)
    → queue_in queue (Some part) ≡ empty_queue 0
may_send-other (Interface ni) other queue = absurd (cc other)
may_send-other (Router router) other queue = refl
may_send-other (TableRouter router) other queue = refl
may_send-other (Stage stage) other queue = refl

pub may_send-replaced : (parts : List Part) (number : ℕ) (part : Part)
    → is_interface (wiring_of part) ≡ false → (other queue : ℕ)
    → may_send (slice_set parts number part) other queue ≡ true → may_send parts other queue ≡ true
may_send-replaced parts number part isnt other queue may = elim (cases_eq other number) [
  | inr apart ↦
      ap (λ (found : Option Part). is_some (emitted (queue_in queue found)))
      (sym (slice_get-slice_set_other parts number other part apart)) ∙ may
  | inl same ↦ elim (cases_lt number (length parts)) [
    | inl within ↦
        absurd (cc (sym may
        ∙ ap (λ n. may_send (slice_set parts number part) n queue) same
        ∙ ap (λ (found : Option Part). is_some (emitted (queue_in queue found)))
        (slice_get-slice_set_same parts number part within)
        ∙ ap (λ (state : QueueState). is_some (emitted state)) (may_send-other part isnt queue)))
    | inr past ↦
        absurd (cc (sym may
        ∙ ap (λ (found : Option Part). is_some (emitted (queue_in queue found)))
        (slice_get_past (slice_set parts number part) other
        (let size = length-set parts number part in omega (arith, size, past, same)))))
  ]
]

-- Before the first cycle each table is empty, or has no entry for any slot.
module _ (chip : ChipData) (rooms : List ℕ) where
  table-made : (i : ℕ) (part : Part) → Made chip rooms i part
      → (entries_of part ≡ []) ⊎ (entries_of part ≡ replicate chip.slots None)
  table-made i part (IsInterface within is) = inr (ap entries_of is)
  table-made i part (IsRouter r within place is) = inl (ap entries_of is)
  table-made i part (IsStage k few place stage) = inl (ap entries_of stage.is)

  table-new : (number : ℕ)
      → (table_at (map entries_of (new_parts chip ByHeader rooms)) number ≡ [])
      ⊎ (table_at (map entries_of (new_parts chip ByHeader rooms)) number
      ≡ replicate chip.slots None)
  table-new number =
      let parts = new_parts chip ByHeader rooms in
      elim (cases_lt number (length parts)) [
        | inl within ↦
            let item = item-at parts number within in
            subst (λ (table : List (Option ℕ)). (table ≡ []) ⊎ (table ≡ replicate chip.slots None))
            (sym (table_at-parts parts number item.0 item.1))
            (table-made number item.0 (part-at chip rooms number item.0 item.1))
        | inr past ↦
            let size = length-map parts entries_of in
            inl (get_or_past (map entries_of parts) number [] (omega (arith, past, size)))
      ]

  -- So none need be marked.
  pub AreInjecting-new : IsChip chip → (parts : List Part)
      → map entries_of parts ≡ map entries_of (new_parts chip ByHeader rooms) → (injecting : Injecting)
      → length injecting.slots ≡ chip.slots → HasPlaces (part_count chip) injecting
      → ((slot number : ℕ) → bit_of (marks_at injecting.slots slot) number ≡ 0)
      → AreInjecting parts injecting
  AreInjecting-new is_chip parts same injecting count places unmarked =
      let made = new_parts chip ByHeader rooms in
      let tables = map entries_of made in
      let none : (number slot queue : ℕ) → entry_at tables number slot ≡ Some queue → ⊥ =
      λ number slot queue is. elim (table-new number) [
        | inl none ↦
            let within = entry-within (table_at tables number) slot queue is in
            let empty = ap length none in
            omega (arith, within, empty)
        | inr all ↦
            cc (sym (ap (λ (table : List (Option ℕ)). slice_index_or table slot None) all
            ∙ get_or-same None chip.slots slot) ∙ is)
      ] in
      record {
        tables = rw same (record {
          places = subst (λ n. HasPlaces n injecting)
              (sym (length-map made entries_of ∙ length-new_parts chip rooms)) places;
          size = λ number some. elim (table-new number) [
            | inl none ↦ (let empty = ap length none in absurd (omega (arith, some, empty)))
            | inr all ↦ ap length all ∙ length-replicate chip.slots None ∙ sym count
          ];
          entered = λ number slot queue is. absurd (none number slot queue is);
          below = λ number slot bit.
              let none = unmarked slot number in absurd (omega (arith, bit, none));
        });
        marked = λ number slot queue is sends.
            absurd (none number slot queue
            (ap (λ (tables : List (List (Option ℕ))). entry_at tables number slot) (sym same)
            ∙ entry_at-parts parts number slot ∙ is));
      }
