-- How a channel stood before each of its sessions went, session by session.
use Rattle.std.proofs.Common.{◌≡◌, ◌≤◌, ◌<◌, ◌+◌, ◌++◌, ℕ, zero, suc, List, [], ◌∷◌, ap, arith}
use Rattle.std.proofs.Common.{get_or, inl, inr, length, refl, take, true, false}
use Rattle.std.proofs.lemmas.Bool.{cases_Bool}
use Rattle.aeth_components.specs.declared.channel_state.ChannelState.{ChannelState}
use Rattle.aeth_stimuli.specs.Stimuli.{is_over}
use Rattle.aeth_schedule.specs.declared.session_start.SessionStart.{SessionStart}
use Rattle.aeth_network.specs.Logging.{replaced_on}

-- A session of the channel goes.
yes_at : (number k : ℕ) (session_starts : List SessionStart) (replaced : List ChannelState)
    (one : SessionStart) (channel_state : ChannelState)
    → k < length session_starts → k < length replaced
    → is_over number (get_or session_starts k one) ≡ true
    → replaced_on number (take (suc k) session_starts) (take (suc k) replaced)
    ≡ replaced_on number (take k session_starts) (take k replaced)
    ++ get_or replaced k channel_state ∷ []
yes_at number k [] replaced one channel_state some there over = absurd (omega arith)
yes_at number k (first ∷ session_starts) [] one channel_state some there over = absurd (omega arith)
yes_at number zero (first ∷ session_starts) (was ∷ replaced) one channel_state some there over =
    rw over refl
yes_at number (suc k) (first ∷ session_starts) (was ∷ replaced) one channel_state some there over =
    let rest = yes_at number k session_starts replaced one channel_state (omega arith) (omega arith)
    over in
    elim (cases_Bool (is_over number first)) [
      | inl own ↦ rw own (ap (λ (channel_states : List ChannelState). was ∷ channel_states) rest)
      | inr other ↦ rw other rest
    ]

pub replaced-yes : (number k : ℕ) (session_starts : List SessionStart)
    (replaced : List ChannelState) (one : SessionStart)
    (channel_state : ChannelState) → k < length session_starts → k < length replaced
    → is_over number (get_or session_starts k one) ≡ true
    → replaced_on number (take (k + 1) session_starts) (take (k + 1) replaced)
    ≡ replaced_on number (take k session_starts) (take k replaced)
    ++ get_or replaced k channel_state ∷ []
replaced-yes number k session_starts replaced one channel_state some there over =
    let next : k + 1 ≡ suc k = omega arith in
    rw next (yes_at number k session_starts replaced one channel_state some there over)

-- A session of another channel goes.
no_at : (number k : ℕ) (session_starts : List SessionStart) (replaced : List ChannelState)
    (one : SessionStart)
    → k < length session_starts → k < length replaced
    → is_over number (get_or session_starts k one) ≡ false
    → replaced_on number (take (suc k) session_starts) (take (suc k) replaced)
    ≡ replaced_on number (take k session_starts) (take k replaced)
no_at number k [] replaced one some there over = absurd (omega arith)
no_at number k (first ∷ session_starts) [] one some there over = absurd (omega arith)
no_at number zero (first ∷ session_starts) (was ∷ replaced) one some there over = rw over refl
no_at number (suc k) (first ∷ session_starts) (was ∷ replaced) one some there over =
    let rest = no_at number k session_starts replaced one (omega arith) (omega arith) over in
    elim (cases_Bool (is_over number first)) [
      | inl own ↦ rw own (ap (λ (channel_states : List ChannelState). was ∷ channel_states) rest)
      | inr other ↦ rw other rest
    ]

pub replaced-no : (number k : ℕ) (session_starts : List SessionStart) (replaced : List ChannelState)
    (one : SessionStart)
    → k < length session_starts → k < length replaced
    → is_over number (get_or session_starts k one) ≡ false
    → replaced_on number (take (k + 1) session_starts) (take (k + 1) replaced)
    ≡ replaced_on number (take k session_starts) (take k replaced)
replaced-no number k session_starts replaced one some there over =
    let next : k + 1 ≡ suc k = omega arith in
    rw next (no_at number k session_starts replaced one some there over)

-- Sessions that haven't gone yet replaced nothing.
pub replaced-whole : (number size : ℕ) (session_starts : List SessionStart)
    (replaced : List ChannelState)
    → length replaced ≤ size → replaced_on number (take size session_starts) (take size replaced)
    ≡ replaced_on number session_starts replaced
replaced-whole number zero [] replaced within = refl
replaced-whole number (suc size) [] replaced within = refl
replaced-whole number zero (first ∷ session_starts) [] within = refl
replaced-whole number (suc size) (first ∷ session_starts) [] within = refl
replaced-whole number zero (first ∷ session_starts) (was ∷ replaced) within = absurd (omega arith)
replaced-whole number (suc size) (first ∷ session_starts) (was ∷ replaced) within =
    let rest = replaced-whole number size session_starts replaced (omega arith) in
    elim (cases_Bool (is_over number first)) [
      | inl own ↦ rw own (ap (λ (channel_states : List ChannelState). was ∷ channel_states) rest)
      | inr other ↦ rw other rest
    ]

-- No more than there are.
pub replaced-few : (number : ℕ) (session_starts : List SessionStart) (replaced : List ChannelState)
    → length (replaced_on number session_starts replaced) ≤ length replaced
replaced-few number [] replaced = omega arith
replaced-few number (first ∷ session_starts) [] = omega arith
replaced-few number (first ∷ session_starts) (was ∷ replaced) =
    let rest = replaced-few number session_starts replaced in
    elim (cases_Bool (is_over number first)) [
      | inl own ↦ rw own (omega arith)
      | inr other ↦ rw other (omega arith)
    ]
