-- What is counted of the channels at one interface depends on that interface alone.
use Rattle.std.proofs.Common.{ℕ, ◌≡◌, ◌+◌, ◌-◌, ◌==◌, ◌∙◌, refl, sym, ap, inl, inr, List, fold, map}
use Rattle.std.proofs.Common.{Option, slice_get, if◌then◌else◌, min, eqb-true}
use Rattle.std.proofs.lemmas.Bool.{cases_Bool}
use Rattle.std.specs.Option.{option_map_or}
use Rattle.aeth_router.specs.declared.part.Part.{Part}
use Rattle.aeth_components.specs.{declared.channel_state.ChannelState.ChannelState, Counting.brings}
use Rattle.aeth_components.specs.{Counting.counted, Counting.counted_among, Counting.noted_among}
use Rattle.aeth_components.specs.{Counting.written_over, ChannelStates.is_open, Queues.brought_by}
use Rattle.aeth_components.proofs.MapLemmas.{fold-agree, map-agree}

module _ (cycle : ℕ) (parts other : List Part) (number : ℕ)
    (at : slice_get parts number ≡ slice_get other number) where
  -- As many words come to a channel there.
  brings-there : (channel_state : ChannelState) → channel_state.receiver.ni.0 ≡ number
      → brings parts channel_state ≡ brings other channel_state
  brings-there channel_state same =
      ap (λ (found : Option Part).
      min (option_map_or (brought_by channel_state.receiver.queue) found 0)
      (channel_state.enqueued - channel_state.landed))
      (ap (slice_get parts) same ∙ at ∙ ap (slice_get other) (sym same))

  among-there : (channel_state : ChannelState)
      → (counted_among (λ i. i == number) cycle parts channel_state
      ≡ counted_among (λ i. i == number) cycle other channel_state)
      × ((landings : List ℕ) → noted_among (λ i. i == number) cycle parts landings channel_state
      ≡ noted_among (λ i. i == number) cycle other landings channel_state)
  among-there channel_state = elim (cases_Bool (channel_state.receiver.ni.0 == number)) [
    | inl here ↦
        let same = brings-there channel_state (eqb-true channel_state.receiver.ni.0 number here) in
        let count : counted cycle parts channel_state ≡ counted cycle other channel_state =
        ap (λ n. if is_open channel_state cycle then
        record channel_state { landed = channel_state.landed + n } else channel_state) same in
        let note = λ (landings : List ℕ).
        ap (λ n. if is_open channel_state cycle then written_over n
        (channel_state.first + channel_state.landed) (cycle + 1) landings
        else landings) same in
        (rw here count, λ landings. rw here (note landings))
    | inr away ↦ (rw away refl, λ landings. rw away refl)
  ]

  -- So of all channels.
  pub counts-there : (channel_states : List ChannelState)
      → map (counted_among (λ i. i == number) cycle parts) channel_states
      ≡ map (counted_among (λ i. i == number) cycle other) channel_states
  counts-there channel_states =
      map-agree (counted_among (λ i. i == number) cycle parts)
      (counted_among (λ i. i == number) cycle other) channel_states
      (λ k channel_state at. (among-there channel_state).0)

  pub notes-there : (channel_states : List ChannelState) (landings : List ℕ)
      → fold (noted_among (λ i. i == number) cycle parts) landings channel_states
      ≡ fold (noted_among (λ i. i == number) cycle other) landings channel_states
  notes-there =
      fold-agree (noted_among (λ i. i == number) cycle parts)
      (noted_among (λ i. i == number) cycle other) (λ channel_state. (among-there channel_state).1)
