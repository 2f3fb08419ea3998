-- Laws of a change of one channel state.
use Rattle.std.proofs.Common.{ℕ, zero, suc, ◌≡◌, ◌≢◌, ◌<◌, ◌∙◌, refl, sym, ap, arith, List, [], ◌∷◌}
use Rattle.std.proofs.Common.{length, get_or, set, Some, slice_get}
use Rattle.std.proofs.lemmas.Option.{get_or_from_slice_get, same_Some, slice_get_within}
use Rattle.aeth_components.specs.declared.channel_state.ChannelState.{ChannelState}
use Rattle.aeth_components.specs.ChannelStates.{with_channel_state}

-- A channel state that is changed at its place has changed.
pub set-with_channel_state : (channel_states : List ChannelState) (number : ℕ)
    (change : ChannelState → ChannelState)
    (default : ChannelState) → number < length channel_states
    → set channel_states number (change (get_or channel_states number default))
    ≡ with_channel_state number change channel_states
set-with_channel_state [] number change default within = refl
set-with_channel_state (first ∷ channel_states) zero change default within = refl
set-with_channel_state (first ∷ channel_states) (suc number) change default within =
    ap (λ (rest : List ChannelState). first ∷ rest)
    (set-with_channel_state channel_states number change default (omega arith))

-- A channel state of a number below the count of channel states.
pub channel_state-within : (channel_states : List ChannelState) (number : ℕ)
    → number < length channel_states
    → (channel_state : ChannelState) × (slice_get channel_states number ≡ Some channel_state)
channel_state-within [] number within = absurd (omega (arith, within))
channel_state-within (first ∷ channel_states) zero within = (first, refl)
channel_state-within (first ∷ channel_states) (suc number) within =
    channel_state-within channel_states number (omega (arith, within))

-- So where it is known.
pub with_channel_state-set : (channel_states : List ChannelState) (number : ℕ)
    (change : ChannelState → ChannelState) (channel_state : ChannelState)
    → slice_get channel_states number ≡ Some channel_state
    → with_channel_state number change channel_states
    ≡ set channel_states number (change channel_state)
with_channel_state-set channel_states number change channel_state at =
    sym (set-with_channel_state channel_states number change channel_state
    (slice_get_within channel_states number channel_state at))
    ∙ ap (λ (channel_state : ChannelState). set channel_states number (change channel_state))
    (get_or_from_slice_get channel_states number channel_state channel_state at)

-- There are as many as before.
pub length-with_channel_state : (number : ℕ) (change : ChannelState → ChannelState)
    (channel_states : List ChannelState)
    → length (with_channel_state number change channel_states) ≡ length channel_states
length-with_channel_state number change [] = refl
length-with_channel_state zero change (channel_state ∷ channel_states) = refl
length-with_channel_state (suc number) change (channel_state ∷ channel_states) =
    ap (λ n. suc n) (length-with_channel_state number change channel_states)

-- The channel state of the number has changed.
pub with_channel_state-own : (number : ℕ) (change : ChannelState → ChannelState)
    (channel_states : List ChannelState) (channel_state : ChannelState)
    → slice_get channel_states number ≡ Some channel_state
    → slice_get (with_channel_state number change channel_states) number
    ≡ Some (change channel_state)
with_channel_state-own number change [] channel_state at = absurd (cc at)
with_channel_state-own zero change (first ∷ channel_states) channel_state at =
    ap (λ (one : ChannelState). Some (change one)) (same_Some first channel_state at)
with_channel_state-own (suc number) change (first ∷ channel_states) channel_state at =
    with_channel_state-own number change channel_states channel_state at

-- No other has.
pub with_channel_state-other : (number other : ℕ) (change : ChannelState → ChannelState)
    (channel_states : List ChannelState)
    → number ≢ other
    → slice_get (with_channel_state number change channel_states) other
    ≡ slice_get channel_states other
with_channel_state-other number other change [] apart = refl
with_channel_state-other zero zero change (first ∷ channel_states) apart = absurd (apart refl)
with_channel_state-other zero (suc other) change (first ∷ channel_states) apart = refl
with_channel_state-other (suc number) zero change (first ∷ channel_states) apart = refl
with_channel_state-other (suc number) (suc other) change (first ∷ channel_states) apart =
    with_channel_state-other number other change channel_states
    (λ same. apart (ap (λ n. suc n) same))

-- What is true of each channel state is true once one has changed, if it is true of that one.
pub each-with_channel_state : (P : ℕ → ChannelState → Type 0) (number : ℕ)
    (change : ChannelState → ChannelState)
    (channel_states : List ChannelState)
    → ((k : ℕ) (channel_state : ChannelState) → slice_get channel_states k ≡ Some channel_state
    → k ≡ number → P k (change channel_state))
    → ((k : ℕ) (channel_state : ChannelState) → slice_get channel_states k ≡ Some channel_state
    → k ≢ number → P k channel_state)
    → (k : ℕ) (channel_state : ChannelState)
    → slice_get (with_channel_state number change channel_states) k ≡ Some channel_state
    → P k channel_state
each-with_channel_state P number change [] own other k channel_state at = absurd (cc at)
each-with_channel_state P zero change (first ∷ channel_states) own other zero channel_state at =
    rw (same_Some (change first) channel_state at) at (own zero first refl refl)
each-with_channel_state P zero change (first ∷ channel_states) own other (suc k) channel_state at =
    other (suc k) channel_state at (omega arith)
each-with_channel_state P (suc number) change (first ∷ channel_states) own other zero channel_state
    at =
    other zero channel_state at (omega arith)
each-with_channel_state P (suc number) change (first ∷ channel_states) own other (suc k)
    channel_state at =
    each-with_channel_state (λ n. P (suc n)) number change channel_states
    (λ n one there same. own (suc n) one there (omega arith))
    (λ n one there apart. other (suc n) one there (omega arith)) k channel_state at
