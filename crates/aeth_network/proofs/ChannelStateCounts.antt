-- Channels and their limits are as many as before, whatever changes.
use Rattle.std.proofs.Common.{◌≡◌, ◌∙◌, ℕ, List, [], ◌∷◌, ap, fold, length, length-set, refl}
use Rattle.aeth_trace.specs.Channels.{channel_number}
use Rattle.aeth_components.proofs.ChannelStateLemmas.{length-with_channel_state}
use Rattle.aeth_components.specs.Components.{ComponentsState}
use Rattle.aeth_components.specs.declared.channel_state.ChannelState.{ChannelState}
use Rattle.aeth_schedule.specs.declared.session_start.SessionStart.{SessionStart}
use Rattle.aeth_running.proofs.ChannelStateLookups.{length-offered}
use Rattle.aeth_running.specs.Network.{accepted_with, gone_with, taking_with, until_with}
use Rattle.aeth_stimuli.specs.Stimuli.{Offer, Take}

-- So many sessions have gone.
pub length-untils : (session_starts : List SessionStart) (untils : List ℕ)
    → length (fold until_with untils session_starts) ≡ length untils
length-untils [] untils = refl
length-untils (session_start ∷ session_starts) untils =
    length-untils session_starts (until_with untils session_start)
    ∙ length-set untils (channel_number session_start.channel) session_start.until

pub length-gone : (session_starts : List SessionStart) (channel_states : List ChannelState)
    → length (fold gone_with channel_states session_starts) ≡ length channel_states
length-gone [] channel_states = refl
length-gone (session_start ∷ session_starts) channel_states =
    length-gone session_starts (gone_with channel_states session_start)
    ∙ length-with_channel_state (channel_number session_start.channel)
    (λ channel_state. record session_start.channel_state { pull = channel_state.pull })
    channel_states

pub length-taking : (takes : List Take) (channel_states : List ChannelState)
    → length (fold taking_with channel_states takes) ≡ length channel_states
length-taking [] channel_states = refl
length-taking (take ∷ takes) channel_states =
    length-taking takes (taking_with channel_states take)
    ∙ length-with_channel_state take.number
    (λ channel_state. record channel_state { pull = take.pull }) channel_states

-- Channels that have gone, or have accepted words, are as many as before.
pub channel_states-gone : (now old : ComponentsState) (session_starts : List SessionStart)
    → now ≡ record old { channel_states = fold gone_with old.channel_states session_starts }
    → length now.channel_states ≡ length old.channel_states
channel_states-gone now old session_starts is =
    ap (λ (all : ComponentsState). length all.channel_states) is
    ∙ length-gone session_starts old.channel_states

pub channel_states-accepted : (now old : ComponentsState) (t : ℕ) (untils : List ℕ)
    (offers : List Offer)
    → now ≡ record old { channel_states = fold (accepted_with t untils) old.channel_states offers }
    → length now.channel_states ≡ length old.channel_states
channel_states-accepted now old t untils offers is =
    ap (λ (all : ComponentsState). length all.channel_states) is
    ∙ length-offered t untils offers old.channel_states
