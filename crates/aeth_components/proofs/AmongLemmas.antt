-- Laws of what is counted of the channels that receive at some interfaces.
use Rattle.std.proofs.Common.{ℕ, zero, suc, ◌≡◌, ◌≢◌, ◌<◌, ◌==◌, ◌∙◌, refl, sym, ap, subst, arith}
use Rattle.std.proofs.Common.{inl, inr, Bool, true, List, [], ◌∷◌, fold, length, map, Option, Some}
use Rattle.std.proofs.Common.{None, slice_get, eqb-true}
use Rattle.std.proofs.lemmas.Bool.{cases_Bool, cases_lt}
use Rattle.std.proofs.lemmas.Option.{get_or_from_slice_get, slice_get_within}
use Rattle.std.specs.{List.All, Option.option_map_or}
use Rattle.aeth_router.specs.declared.part.Part.{Part}
use Rattle.aeth_components.specs.{declared.channel_state.ChannelState.ChannelState}
use Rattle.aeth_components.specs.{Channels.OfChannelState, Counting.brings, Counting.brought_at}
use Rattle.aeth_components.specs.{Counting.counted, Counting.counted_among, Counting.noted}
use Rattle.aeth_components.specs.{Counting.noted_among, ChannelStates.IsChannelState}
use Rattle.aeth_components.specs.{ChannelStates.with_channel_state, Queues.brought_by}
use Rattle.aeth_components.proofs.CountingLemmas.{IsChannelState-counted, brings-none}
use Rattle.aeth_components.proofs.CountingLemmas.{brings-silent, counted-still, noted-still}
use Rattle.aeth_components.proofs.HomeLemmas.{StaysAtHome, StaysAtHome-counted}

module _ (cycle : ℕ) (parts : List Part) where
  module _ (among : ℕ → Bool) where
    -- A channel to which no words come there stays, and nothing is noted of it.
    pub stays : (channel_state : ChannelState)
        → (among channel_state.receiver.ni.0 ≡ true → brings parts channel_state ≡ 0)
        → (counted_among among cycle parts channel_state ≡ channel_state)
        × ((landings : List ℕ) → noted_among among cycle parts landings channel_state ≡ landings)
    stays channel_state none = elim (cases_Bool (among channel_state.receiver.ni.0)) [
      | inl here ↦ (
        rw here (counted-still cycle parts channel_state (none here)),
        λ landings. rw here (noted-still cycle parts landings channel_state (none here)),
      )
      | inr away ↦ (rw away refl, λ landings. rw away refl)
    ]

    -- So of all channels.
    pub counts-still : (channel_states : List ChannelState)
        → ((k : ℕ) (channel_state : ChannelState) → slice_get channel_states k ≡ Some channel_state
        → among channel_state.receiver.ni.0 ≡ true → brings parts channel_state ≡ 0)
        → channel_states ≡ map (counted_among among cycle parts) channel_states
    counts-still [] none = refl
    counts-still (channel_state ∷ channel_states) none =
        ap (λ (rest : List ChannelState). channel_state ∷ rest)
        (counts-still channel_states (λ k other at. none (suc k) other at))
        ∙ ap (λ (channel_state : ChannelState). channel_state
        ∷ map (counted_among among cycle parts) channel_states)
        (sym (stays channel_state (none 0 channel_state refl)).0)

    pub notes-still : (channel_states : List ChannelState) (landings : List ℕ)
        → ((k : ℕ) (channel_state : ChannelState) → slice_get channel_states k ≡ Some channel_state
        → among channel_state.receiver.ni.0 ≡ true → brings parts channel_state ≡ 0)
        → landings ≡ fold (noted_among among cycle parts) landings channel_states
    notes-still [] landings none = refl
    notes-still (channel_state ∷ channel_states) landings none =
        notes-still channel_states landings (λ k other at. none (suc k) other at)
        ∙ ap (λ (list : List ℕ). fold (noted_among among cycle parts) list channel_states)
        (sym ((stays channel_state (none 0 channel_state refl)).1 landings))

    -- Where words come to one channel alone, that one is counted.
    pub counts-one : (channel_states : List ChannelState) (number : ℕ)
        → OfChannelState channel_states number
        (λ channel_state. among channel_state.receiver.ni.0 ≡ true)
        → ((k : ℕ) (channel_state : ChannelState) → k ≢ number
        → slice_get channel_states k ≡ Some channel_state
        → among channel_state.receiver.ni.0 ≡ true → brings parts channel_state ≡ 0)
        → with_channel_state number (counted cycle parts) channel_states
        ≡ map (counted_among among cycle parts) channel_states
    counts-one [] number own others = refl
    counts-one (channel_state ∷ channel_states) zero own others =
        ap (λ (rest : List ChannelState). counted cycle parts channel_state ∷ rest)
        (counts-still channel_states (λ k other at. others (suc k) other (omega arith) at))
        ∙ ap (λ (channel_state : ChannelState). channel_state
        ∷ map (counted_among among cycle parts) channel_states)
        (let here = own channel_state refl in
        let same : counted_among among cycle parts channel_state
        ≡ counted cycle parts channel_state = rw here refl in
        sym same)
    counts-one (channel_state ∷ channel_states) (suc number) own others =
        ap (λ (rest : List ChannelState). channel_state ∷ rest)
        (counts-one channel_states number own
        (λ k other apart at. others (suc k) other (omega (arith, apart)) at))
        ∙ ap (λ (channel_state : ChannelState). channel_state
        ∷ map (counted_among among cycle parts) channel_states)
        (sym (stays channel_state (others 0 channel_state (omega arith) refl)).0)

    pub notes-one : (channel_states : List ChannelState) (number : ℕ) (landings new : List ℕ)
        → number < length channel_states
        → OfChannelState channel_states number
        (λ channel_state. among channel_state.receiver.ni.0 ≡ true)
        → OfChannelState channel_states number
        (λ channel_state. new ≡ noted cycle parts landings channel_state)
        → ((k : ℕ) (channel_state : ChannelState) → k ≢ number
        → slice_get channel_states k ≡ Some channel_state
        → among channel_state.receiver.ni.0 ≡ true → brings parts channel_state ≡ 0)
        → new ≡ fold (noted_among among cycle parts) landings channel_states
    notes-one [] number landings new within own note others = absurd (omega arith)
    notes-one (channel_state ∷ channel_states) zero landings new within own note others =
        let here = own channel_state refl in
        let same : noted_among among cycle parts landings channel_state
        ≡ noted cycle parts landings channel_state =
        rw here refl in
        note channel_state refl ∙ sym same
        ∙ notes-still channel_states (noted_among among cycle parts landings channel_state)
        (λ k other at. others (suc k) other (omega arith) at)
    notes-one (channel_state ∷ channel_states) (suc number) landings new within own note others =
        notes-one channel_states number landings new (omega arith) own note
        (λ k other apart at. others (suc k) other (omega (arith, apart)) at)
        ∙ ap (λ (list : List ℕ). fold (noted_among among cycle parts) list channel_states)
        (sym ((stays channel_state (others 0 channel_state (omega arith) refl)).1 landings))

    -- A channel stays at its place, and as sound.
    pub StaysAtHome-among : (channel_state : ChannelState)
        → StaysAtHome channel_state (counted_among among cycle parts channel_state)
    StaysAtHome-among channel_state = elim (cases_Bool (among channel_state.receiver.ni.0)) [
      | inl here ↦ rw here (StaysAtHome-counted cycle parts channel_state)
      | inr away ↦ rw away (record { same = refl; less = λ waits. waits })
    ]

    pub IsChannelState-among : (words count : ℕ) (channel_state : ChannelState)
        → IsChannelState words count channel_state
        → IsChannelState words count (counted_among among cycle parts channel_state)
    IsChannelState-among words count channel_state sound =
        elim (cases_Bool (among channel_state.receiver.ni.0)) [
          | inl here ↦ rw here (IsChannelState-counted words cycle count parts channel_state sound)
          | inr away ↦ rw away sound
        ]

module _ (parts : List Part) where
  -- Where each channel at an interface is found that waits for words and to whose queue some came, none
  -- that isn't found gets words.
  pub brings-other : (words : ℕ) (channel_states : List ChannelState) (number : ℕ) (part : Part)
      (found : Option ℕ)
      → All (IsChannelState words (length parts)) channel_states
      → slice_get parts number ≡ Some part
      → ((k : ℕ) (channel_state : ChannelState) → slice_get channel_states k ≡ Some channel_state
      → channel_state.receiver.ni.0 ≡ number
      → channel_state.landed < channel_state.accepted
      → 0 < brought_by channel_state.receiver.queue part → found ≡ Some k)
      → (k : ℕ) (channel_state : ChannelState) → (found ≡ Some k → ⊥)
      → slice_get channel_states k ≡ Some channel_state
      → (channel_state.receiver.ni.0 == number) ≡ true → brings parts channel_state ≡ 0
  brings-other words channel_states number part found sound there own k channel_state apart at
      here =
      let same = eqb-true channel_state.receiver.ni.0 number here in
      elim (cases_lt channel_state.landed channel_state.accepted) [
        | inl waits ↦
            brings-silent parts channel_state part (ap (slice_get parts) same ∙ there)
            (elim (cases_lt 0 (brought_by channel_state.receiver.queue part)) [
              | inl some ↦ absurd (apart (own k channel_state at same waits some))
              | inr none ↦
                  (let zero : brought_by channel_state.receiver.queue part ≡ 0 =
                  omega (arith, none) in zero)
            ])
        | inr none ↦
            let is : IsChannelState words (length parts) channel_state =
            subst (IsChannelState words (length parts))
            (get_or_from_slice_get channel_states k channel_state channel_state at)
            (sound k channel_state (slice_get_within channel_states k channel_state at)) in
            let enqueued = is.enqueued in
            brings-none parts channel_state (omega (arith, none, enqueued))
      ]

  -- Nor does one where no words came to the component that receives.
  pub brings-found : (channel_state : ChannelState) (found : Option Part)
      → slice_get parts channel_state.receiver.ni.0 ≡ found
      → ((part : Part) → found ≡ Some part → brought_by channel_state.receiver.queue part ≡ 0)
      → brings parts channel_state ≡ 0
  brings-found channel_state None there none =
      let zero : brought_at channel_state.receiver parts ≡ 0 =
      ap (λ (found : Option Part). option_map_or (brought_by channel_state.receiver.queue) found 0)
      there in
      omega (arith, zero)
  brings-found channel_state (Some part) there none =
      brings-silent parts channel_state part there (none part refl)
