-- Channels that change one by one.
use Rattle.std.proofs.Common.{◌≡◌, ◌<◌, ◌+◌, ◌∙◌, ℕ, zero, suc, List, [], ◌∷◌, ap, arith, get_or}
use Rattle.std.proofs.Common.{length, refl, nat_lt, subst, true, slice_index}
use Rattle.std.proofs.lemmas.Bool.Decides.{nat_tests}
use Rattle.aeth_running.specs.Network.{accepted_with}
use Rattle.aeth_stimuli.specs.Stimuli.{Offer}
use Rattle.aeth_components.specs.ChannelStates.{with_channel_state}
use Rattle.aeth_components.specs.declared.channel_state.ChannelState.{ChannelState}

-- A channel without anything.
abbrev pub empty : ChannelState
empty = record {
  sender = record { ni = record { 0 = 0 }; queue = 0 };
  receiver = record { ni = record { 0 = 0 }; queue = 0 };
  go = 0;
  fin = 0;
  first = 0;
  accepted = 0;
  pull = 0;
  enqueued = 0;
  landed = 0;
  taken = 0;
}

-- A number that is read off a channel is that of the channel that changes.
accept-one : (channel_states : List ChannelState) (number accepted : ℕ) (default : ChannelState)
    → number < length channel_states
    → accepted ≡ (get_or channel_states number default).accepted
    → with_channel_state number (λ channel_state. record channel_state { accepted = accepted + 1 })
    channel_states
    ≡ with_channel_state number
    (λ channel_state. record channel_state { accepted = channel_state.accepted + 1 }) channel_states
accept-one [] number accepted default within is = refl
accept-one (first ∷ channel_states) zero accepted default within is =
    ap (λ n. record first { accepted = n + 1 } ∷ channel_states) is
accept-one (first ∷ channel_states) (suc number) accepted default within is =
    ap (λ (rest : List ChannelState). first ∷ rest)
    (accept-one channel_states number accepted default (omega arith) is)

-- The session of its channel accepts a word.
pub offered-one : (t : ℕ) (untils : List ℕ) (channel_states : List ChannelState) (offer : Offer)
    (number accepted : ℕ) (default : ChannelState) → number ≡ offer.number
    → number < length channel_states
    → t < slice_index untils number → accepted ≡ (get_or channel_states number default).accepted
    → with_channel_state number (λ channel_state. record channel_state { accepted = accepted + 1 })
    channel_states
    ≡ accepted_with t untils channel_states offer
offered-one t untils channel_states offer number accepted default same within early is =
    let here : t < slice_index untils offer.number =
    subst (λ n. t < slice_index untils n) same early in
    let accepts : nat_lt t (slice_index untils offer.number) ≡ true = grind (arith, nat_tests) in
    accept-one channel_states number accepted default within is
    ∙ ap (λ n. with_channel_state n
    (λ channel_state. record channel_state { accepted = channel_state.accepted + 1 })
    channel_states) same
    ∙ rw accepts refl
