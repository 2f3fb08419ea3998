-- Laws of the walk over interfaces: of the channels that receive at those so far, and at one more.
use Rattle.std.proofs.Common.{ℕ, zero, suc, ◌≡◌, ◌≢◌, ◌+◌, ◌==◌, ◌⊎◌, ◌∙◌, refl, sym, ap, inl, inr}
use Rattle.std.proofs.Common.{Bool, true, false, List, [], ◌∷◌, fold, length, map, set, eq-eqb}
use Rattle.std.proofs.Common.{eqb-true}
use Rattle.std.proofs.lemmas.Bool.{cases_Bool, cases_eq, false_from_ne_true}
use Rattle.aeth_router.specs.declared.part.Part.{Part}
use Rattle.aeth_components.specs.{declared.channel_state.ChannelEnd.ChannelEnd}
use Rattle.aeth_components.specs.{declared.channel_state.ChannelState.ChannelState, Counting.brings}
use Rattle.aeth_components.specs.{Counting.counted, Counting.counted_among, Counting.noted_among}
use Rattle.aeth_components.specs.{Counting.written_over, ChannelStates.is_open}
use Rattle.aeth_components.proofs.AmongLemmas.{stays}
use Rattle.aeth_components.proofs.CountingLemmas.{length-written_over, noted-closed, noted-open}
use Rattle.aeth_components.proofs.HomeLemmas.{StaysAtHome-counted}
use Rattle.aeth_components.proofs.MapLemmas.{fold-agree, map-agree}

-- One value is written at two places, in either order.
set-swap : (list : List ℕ) (i j value : ℕ)
    → set (set list i value) j value ≡ set (set list j value) i value
set-swap [] i j value = refl
set-swap (first ∷ list) zero zero value = refl
set-swap (first ∷ list) zero (suc j) value = refl
set-swap (first ∷ list) (suc i) zero value = refl
set-swap (first ∷ list) (suc i) (suc j) value =
    ap (λ (rest : List ℕ). first ∷ rest) (set-swap list i j value)

written_over-set : (count from value : ℕ) (list : List ℕ) (place : ℕ)
    → written_over count from value (set list place value)
    ≡ set (written_over count from value list) place value
written_over-set zero from value list place = refl
written_over-set (suc count) from value list place =
    ap (λ (list : List ℕ). set list (from + count) value)
    (written_over-set count from value list place)
    ∙ set-swap (written_over count from value list) place (from + count) value

-- So at many.
written_over-swap : (count from other to value : ℕ) (list : List ℕ)
    → written_over count from value (written_over other to value list)
    ≡ written_over other to value (written_over count from value list)
written_over-swap zero from other to value list = refl
written_over-swap (suc count) from other to value list =
    ap (λ (list : List ℕ). set list (from + count) value)
    (written_over-swap count from other to value list)
    ∙ sym (written_over-set other to value (written_over count from value list) (from + count))

module _ (cycle : ℕ) (parts : List Part) where
  -- What is noted of a channel is written at some places, be they none.
  noted_among-written : (among : ℕ → Bool) (channel_state : ChannelState)
      → (count : ℕ) × ((landings : List ℕ) → noted_among among cycle parts landings channel_state
      ≡ written_over count (channel_state.first + channel_state.landed) (cycle + 1) landings)
  noted_among-written among channel_state =
      elim (cases_Bool (among channel_state.receiver.ni.0)) [
        | inl here ↦ elim (cases_Bool (is_open channel_state cycle)) [
          | inl opened ↦ (
            brings parts channel_state,
            λ landings. rw here (noted-open cycle parts landings channel_state opened),
          )
          | inr closed ↦
              (0, λ landings. rw here (noted-closed cycle parts landings channel_state closed))
        ]
        | inr away ↦ (0, λ landings. rw away refl)
      ]

  -- There are as many places as before.
  pub length-notes_among : (among : ℕ → Bool) (channel_states : List ChannelState)
      (landings : List ℕ)
      → length (fold (noted_among among cycle parts) landings channel_states) ≡ length landings
  length-notes_among among [] landings = refl
  length-notes_among among (channel_state ∷ channel_states) landings =
      let one = noted_among-written among channel_state in
      length-notes_among among channel_states (noted_among among cycle parts landings channel_state)
      ∙ ap length (one.1 landings)
      ∙ length-written_over one.0 (channel_state.first + channel_state.landed) (cycle + 1) landings

  -- The order of two channels makes no difference, nor that of one and others.
  noted_among-swap : (among other : ℕ → Bool) (landings : List ℕ)
      (channel_state next : ChannelState)
      → noted_among among cycle parts (noted_among other cycle parts landings channel_state) next
      ≡ noted_among other cycle parts (noted_among among cycle parts landings next) channel_state
  noted_among-swap among other landings channel_state next =
      let one = noted_among-written other channel_state in
      let two = noted_among-written among next in
      two.1 (noted_among other cycle parts landings channel_state)
      ∙ ap (written_over two.0 (next.first + next.landed) (cycle + 1)) (one.1 landings)
      ∙ written_over-swap two.0 (next.first + next.landed) one.0
      (channel_state.first + channel_state.landed) (cycle + 1)
      landings
      ∙ ap (written_over one.0 (channel_state.first + channel_state.landed) (cycle + 1))
      (sym (two.1 landings))
      ∙ sym (one.1 (noted_among among cycle parts landings next))

  notes-past : (among other : ℕ → Bool) (channel_states : List ChannelState) (landings : List ℕ)
      (channel_state : ChannelState)
      → fold (noted_among among cycle parts) (noted_among other cycle parts landings channel_state)
      channel_states
      ≡ noted_among other cycle parts (fold (noted_among among cycle parts) landings channel_states)
      channel_state
  notes-past among other [] landings channel_state = refl
  notes-past among other (next ∷ channel_states) landings channel_state =
      ap (λ (list : List ℕ). fold (noted_among among cycle parts) list channel_states)
      (noted_among-swap among other landings channel_state next)
      ∙ notes-past among other channel_states (noted_among among cycle parts landings next)
      channel_state

  -- Two choices of interfaces agree on a channel where both have its own or neither, or no words come to
  -- it.
  abbrev pub Agree : (ℕ → Bool) → (ℕ → Bool) → ChannelState → Type 0
  Agree among other channel_state =
      (among channel_state.receiver.ni.0 ≡ other channel_state.receiver.ni.0)
      ⊎ (brings parts channel_state ≡ 0)

  -- They give the same of it.
  agreed : (among other : ℕ → Bool) (channel_state : ChannelState) → Agree among other channel_state
      → (counted_among among cycle parts channel_state
      ≡ counted_among other cycle parts channel_state)
      × ((landings : List ℕ) → noted_among among cycle parts landings channel_state
      ≡ noted_among other cycle parts landings channel_state)
  agreed among other channel_state (inl same) = (rw same refl, λ landings. rw same refl)
  agreed among other channel_state (inr none) =
      let one = stays cycle parts among channel_state (λ here. none) in
      let two = stays cycle parts other channel_state (λ here. none) in
      (one.0 ∙ sym two.0, λ landings. one.1 landings ∙ sym (two.1 landings))

  -- So for all channels.
  module _ (among other : ℕ → Bool)
      (agree : (channel_state : ChannelState) → Agree among other channel_state) where
    pub counts-agree : (channel_states : List ChannelState)
        → map (counted_among among cycle parts) channel_states
        ≡ map (counted_among other cycle parts) channel_states
    counts-agree channel_states =
        map-agree (counted_among among cycle parts) (counted_among other cycle parts) channel_states
        (λ k channel_state at. (agreed among other channel_state (agree channel_state)).0)

    pub notes-agree : (channel_states : List ChannelState) (landings : List ℕ)
        → fold (noted_among among cycle parts) landings channel_states
        ≡ fold (noted_among other cycle parts) landings channel_states
    notes-agree =
        fold-agree (noted_among among cycle parts) (noted_among other cycle parts)
        (λ channel_state. (agreed among other channel_state (agree channel_state)).1)

  -- One interface more is counted.
  module _ (before after : ℕ → Bool) (next : ℕ) (was : before next ≡ false) (is : after next ≡ true)
      (others : (i : ℕ) → i ≢ next → after i ≡ before i) where
    -- A channel that was counted isn't at it.
    passed : (channel_state : ChannelState) → channel_state.receiver.ni.0 ≢ next
        → ((counted cycle parts channel_state).receiver.ni.0 == next) ≡ false
    passed channel_state apart =
        let same = ap (λ (end : ChannelEnd). end.ni.0)
        (StaysAtHome-counted cycle parts channel_state).same in
        false_from_ne_true ((counted cycle parts channel_state).receiver.ni.0 == next)
        (λ here. apart
        (sym same ∙ eqb-true (counted cycle parts channel_state).receiver.ni.0 next here))

    -- One channel, and all.
    among-next : (channel_state : ChannelState)
        → (counted_among after cycle parts channel_state
        ≡ counted_among (λ i. i == next) cycle parts
        (counted_among before cycle parts channel_state))
        × ((landings : List ℕ) → noted_among after cycle parts landings channel_state
        ≡ noted_among (λ i. i == next) cycle parts
        (noted_among before cycle parts landings channel_state)
        (counted_among before cycle parts channel_state))
    among-next channel_state =
        let i = channel_state.receiver.ni.0 in
        elim (cases_eq i next) [
          | inl same ↦
              let now = ap after same ∙ is in
              let first = ap before same ∙ was in
              let here = eq-eqb i next same in
              (rw (now, first, here) refl, λ landings. rw (now, first, here) refl)
          | inr apart ↦
              let same = others i apart in
              elim (cases_Bool (before i)) [
                | inl done ↦
                    let gone = passed channel_state apart in
                    (rw (same, done, gone) refl, λ landings. rw (same, done, gone) refl)
                | inr not ↦
                    let away = false_from_ne_true (i == next) (λ here. apart (eqb-true i next here)) in
                    (rw (same, not, away) refl, λ landings. rw (same, not, away) refl)
              ]
        ]

    pub counts-next : (channel_states : List ChannelState)
        → map (counted_among (λ i. i == next) cycle parts)
        (map (counted_among before cycle parts) channel_states)
        ≡ map (counted_among after cycle parts) channel_states
    counts-next [] = refl
    counts-next (channel_state ∷ channel_states) =
        ap (λ (channel_state : ChannelState). channel_state
        ∷ map (counted_among (λ i. i == next) cycle parts)
        (map (counted_among before cycle parts) channel_states))
        (sym (among-next channel_state).0)
        ∙ ap (λ (rest : List ChannelState). counted_among after cycle parts channel_state ∷ rest)
        (counts-next channel_states)

    pub notes-next : (channel_states : List ChannelState) (landings : List ℕ)
        → fold (noted_among (λ i. i == next) cycle parts)
        (fold (noted_among before cycle parts) landings channel_states)
        (map (counted_among before cycle parts) channel_states)
        ≡ fold (noted_among after cycle parts) landings channel_states
    notes-next [] landings = refl
    notes-next (channel_state ∷ channel_states) landings =
        let here = λ (i : ℕ). i == next in
        ap (λ (list : List ℕ). fold (noted_among here cycle parts) list
        (map (counted_among before cycle parts) channel_states))
        (sym (notes-past before here channel_states
        (noted_among before cycle parts landings channel_state)
        (counted_among before cycle parts channel_state))
        ∙ ap (λ (list : List ℕ). fold (noted_among before cycle parts) list channel_states)
        (sym ((among-next channel_state).1 landings)))
        ∙ notes-next channel_states (noted_among after cycle parts landings channel_state)
