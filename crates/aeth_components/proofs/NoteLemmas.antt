-- Laws of the cycles in which words land, as they are noted, and of the flits that are counted.
use Rattle.std.proofs.Common.{ℕ, zero, suc, ◌≡◌, ◌<◌, ◌≤◌, ◌+◌, refl, sym, ◌∙◌, arith, List, []}
use Rattle.std.proofs.Common.{◌∷◌, length, fold, Option, Some, slice_get, inl, inr, true, false}
use Rattle.std.proofs.lemmas.Bool.{cases_Bool, cases_eq, cases_lt}
use Rattle.std.proofs.lemmas.Option.{same_Some, slice_get_within}
use Rattle.aeth_base.proofs.Lists.{slice_get-slice_set_same, slice_get-slice_set_other}
use Rattle.aeth_clocked.specs.declared.flit.Flit.{Flit}
use Rattle.aeth_router.specs.declared.part.Part.{Part}
use Rattle.aeth_components.specs.declared.channel_state.ChannelState.{ChannelState}
use Rattle.aeth_components.specs.Counting.{brings, flits_counted, noted, with_flit, written_over}
use Rattle.aeth_components.specs.ChannelStates.{is_open}
use Rattle.aeth_components.specs.Laws.{LandsAt, NotesAlone}
use Rattle.aeth_components.proofs.CountingLemmas.{length-noted, length-written_over, noted-closed}
use Rattle.aeth_components.proofs.CountingLemmas.{noted-open}

-- A place among those that are written over.
pub written_over-within : (count from value : ℕ) (list : List ℕ) (place : ℕ)
    → from ≤ place → place < from + count → place < length list
    → slice_get (written_over count from value list) place ≡ Some value
written_over-within zero from value list place after before within = absurd (omega arith)
written_over-within (suc count) from value list place after before within =
    let size = length-written_over count from value list in
    elim (cases_eq place (from + count)) [
      | inl same ↦
          rw same (slice_get-slice_set_same (written_over count from value list) (from + count) value
          (omega arith))
      | inr other ↦
          slice_get-slice_set_other (written_over count from value list) (from + count) place value
          other
          ∙ written_over-within count from value list place after (omega arith) within
    ]

-- Any other place.
pub written_over-outside : (count from value : ℕ) (list : List ℕ) (place : ℕ)
    → (from ≤ place → place < from + count → ⊥)
    → slice_get (written_over count from value list) place ≡ slice_get list place
written_over-outside zero from value list place outside = refl
written_over-outside (suc count) from value list place outside =
    slice_get-slice_set_other (written_over count from value list) (from + count) place value
    (λ same. outside (omega arith) (omega arith))
    ∙ written_over-outside count from value list place
    (λ after before. outside after (omega arith))

module _ (cycle : ℕ) (parts : List Part) where
  -- What one channel notes.
  noted-own : (landings : List ℕ) (channel_state : ChannelState) (place : ℕ)
      → LandsAt cycle parts channel_state place
      → place < length landings
      → slice_get (noted cycle parts landings channel_state) place ≡ Some (cycle + 1)
  noted-own landings channel_state place lands within =
      rw (noted-open cycle parts landings channel_state lands.0)
      (written_over-within (brings parts channel_state) (channel_state.first + channel_state.landed)
      (cycle + 1) landings place
      lands.1 lands.2 within)

  noted-other : (landings : List ℕ) (channel_state : ChannelState) (place : ℕ)
      → (LandsAt cycle parts channel_state place → ⊥)
      → slice_get (noted cycle parts landings channel_state) place ≡ slice_get landings place
  noted-other landings channel_state place none =
      elim (cases_Bool (is_open channel_state cycle)) [
        | inl opened ↦
            rw (noted-open cycle parts landings channel_state opened)
            (written_over-outside (brings parts channel_state)
            (channel_state.first + channel_state.landed) (cycle + 1)
            landings place (λ after before. none (opened, after, before)))
        | inr closed ↦ rw (noted-closed cycle parts landings channel_state closed) refl
      ]

  -- Each notes the same cycle, so what is noted stays.
  noted-keeps : (landings : List ℕ) (channel_state : ChannelState) (place : ℕ)
      → slice_get landings place ≡ Some (cycle + 1)
      → slice_get (noted cycle parts landings channel_state) place ≡ Some (cycle + 1)
  noted-keeps landings channel_state place at =
      let within = slice_get_within landings place (cycle + 1) at in
      let from = channel_state.first + channel_state.landed in
      elim (cases_Bool (is_open channel_state cycle)) [
        | inl opened ↦ elim (cases_lt place from) [
          | inl before ↦
              noted-other landings channel_state place
              (λ lands. let after = lands.1 in omega arith) ∙ at
          | inr after ↦ elim (cases_lt place (from + brings parts channel_state)) [
            | inl inside ↦
                noted-own landings channel_state place (opened, omega arith, inside) within
            | inr behind ↦
                noted-other landings channel_state place
                (λ lands. let before = lands.2 in omega arith) ∙ at
          ]
        ]
        | inr closed ↦
            noted-other landings channel_state place
            (λ lands. absurd (let no : true ≡ false = sym lands.0 ∙ closed in cc)) ∙ at
      ]

  notes-keep : (channel_states : List ChannelState) (landings : List ℕ) (place : ℕ)
      → slice_get landings place ≡ Some (cycle + 1)
      → slice_get (fold (noted cycle parts) landings channel_states) place ≡ Some (cycle + 1)
  notes-keep [] landings place at = at
  notes-keep (channel_state ∷ channel_states) landings place at =
      notes-keep channel_states (noted cycle parts landings channel_state) place
      (noted-keeps landings channel_state place at)

  notes-own : (channel_states : List ChannelState) (landings : List ℕ) (number : ℕ)
      (channel_state : ChannelState) (place : ℕ)
      → slice_get channel_states number ≡ Some channel_state
      → LandsAt cycle parts channel_state place
      → place < length landings
      → slice_get (fold (noted cycle parts) landings channel_states) place ≡ Some (cycle + 1)
  notes-own [] landings number channel_state place at lands within = absurd cc
  notes-own (first ∷ channel_states) landings zero channel_state place at lands within =
      let same : first ≡ channel_state = same_Some first channel_state at in
      notes-keep channel_states (noted cycle parts landings first) place
      (rw same (noted-own landings channel_state place lands within))
  notes-own (first ∷ channel_states) landings (suc number) channel_state place at lands within =
      let size = length-noted cycle parts landings first in
      notes-own channel_states (noted cycle parts landings first) number channel_state place at
      lands (omega arith)

  notes-other : (channel_states : List ChannelState) (landings : List ℕ) (place : ℕ)
      → ((number : ℕ) (channel_state : ChannelState)
      → slice_get channel_states number ≡ Some channel_state
      → LandsAt cycle parts channel_state place → ⊥)
      → slice_get (fold (noted cycle parts) landings channel_states) place
      ≡ slice_get landings place
  notes-other [] landings place none = refl
  notes-other (channel_state ∷ channel_states) landings place none =
      notes-other channel_states (noted cycle parts landings channel_state) place
      (λ number other at. none (suc number) other at)
      ∙ noted-other landings channel_state place (none 0 channel_state refl)

  pub NotesAlone-holds : (channel_states : List ChannelState) (landings : List ℕ)
      → NotesAlone cycle parts channel_states landings
  NotesAlone-holds channel_states landings =
      record {
        own = notes-own channel_states landings;
        other =
            notes-other channel_states landings;
      }

-- The flits of one link.
pub flits_counted-at : (wires : List (Option Flit)) (counts : List ℕ) (link count : ℕ)
    (wire : Option Flit) → slice_get wires link ≡ Some wire → slice_get counts link ≡ Some count
    → slice_get (flits_counted wires counts) link ≡ Some (with_flit wire count)
flits_counted-at [] counts link count wire at there = absurd cc
flits_counted-at (first ∷ wires) [] link count wire at there = absurd cc
flits_counted-at (first ∷ wires) (n ∷ counts) zero count wire at there =
    let same : first ≡ wire = same_Some first wire at in
    let same_count : n ≡ count = same_Some n count there in
    rw same (rw same_count refl)
flits_counted-at (first ∷ wires) (n ∷ counts) (suc link) count wire at there =
    flits_counted-at wires counts link count wire at there
