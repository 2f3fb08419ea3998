-- Laws of the places at which channels are noted.
use Rattle.std.proofs.Common.{ℕ, ◌≡◌, ◌<◌, ◌^◌, ◌∙◌, sym, ap, arith, subst, inl, inr, true, List}
use Rattle.std.proofs.Common.{length, length-set, map, refl, slice_get, Some}
use Rattle.std.proofs.lemmas.{Bool.cases_Bool, Bool.cases_eq, List.length-map, Option.same_Some}
use Rattle.std.proofs.lemmas.{Option.slice_get_within}
use Rattle.std.specs.List.{slice_set}
use Rattle.aeth_base.proofs.Lists.{slice_get-slice_set_other, slice_get-slice_set_same}
use Rattle.aeth_router.specs.declared.part.Part.{Part}
use Rattle.aeth_components.specs.{declared.homes.Homes.Homes}
use Rattle.aeth_components.specs.{declared.channel_state.ChannelEnd.ChannelEnd}
use Rattle.aeth_components.specs.{declared.channel_state.ChannelState.ChannelState, Busy.AreMarked}
use Rattle.aeth_components.specs.{Busy.IsChannelIdle, Counting.counted, Homes.AreHomes}
use Rattle.aeth_components.specs.{Homes.home_at, ChannelStates.is_open, Phases.pulled}
use Rattle.aeth_components.specs.{Phases.refilled}
use Rattle.aeth_components.proofs.{CountingLemmas.counted-none, WiringLemmas.from-map}

-- Whether a channel is noted at its place.
abbrev pub IsAtHome : List ℕ → ℕ → ChannelState → Type 0
IsAtHome numbers number channel_state =
    slice_get numbers (home_at channel_state.receiver.ni.0 channel_state.receiver.queue)
    ≡ Some number

-- A channel has changed that is noted at its place, if words are still to land.
pub home-changed : (homes : Homes) (channel_states : List ChannelState) (number : ℕ)
    (channel_state : ChannelState) (numbers : List ℕ)
    → AreHomes homes channel_states → homes.is_apart ≡ true → number < length channel_states
    → (channel_state.landed < channel_state.accepted → IsAtHome numbers number channel_state)
    → ((other n : ℕ) → slice_get homes.numbers.items other ≡ Some n → n < 2 ^ 63
    → slice_get numbers other ≡ Some n)
    → (n : ℕ) (found : ChannelState)
    → slice_get (slice_set channel_states number channel_state) n ≡ Some found
    → found.landed < found.accepted → IsAtHome numbers n found
home-changed homes channel_states number channel_state numbers are apart within own kept n found at
    waits =
    elim (cases_eq n number) [
      | inl same ↦
          let is : channel_state ≡ found =
          same_Some channel_state found
          (sym (slice_get-slice_set_same channel_states number channel_state within)
          ∙ ap (slice_get (slice_set channel_states number channel_state)) (sym same) ∙ at) in
          subst (λ (channel_state : ChannelState). IsAtHome numbers n channel_state) is
          (own (subst (λ (channel_state : ChannelState). channel_state.landed
          < channel_state.accepted) (sym is) waits)
          ∙ ap (λ (n : ℕ). Some n) (sym same))
      | inr other ↦
          let before = sym (slice_get-slice_set_other channel_states number n channel_state other)
          ∙ at in
          let below = slice_get_within channel_states n found before in
          let few = are.few in
          kept (home_at found.receiver.ni.0 found.receiver.queue) n
          (are.at apart n found before waits) (omega (arith, below, few))
    ]

-- So with the same places.
pub AreHomes-set : (homes : Homes) (channel_states : List ChannelState) (number : ℕ)
    (channel_state : ChannelState)
    → number < length channel_states
    → (homes.is_apart ≡ true → channel_state.landed < channel_state.accepted
    → IsAtHome homes.numbers.items number channel_state)
    → AreHomes homes channel_states → AreHomes homes (slice_set channel_states number channel_state)
AreHomes-set homes channel_states number channel_state within own are = record {
  size = are.size;
  few = (
      let size = length-set channel_states number channel_state in
      let few = are.few in
      omega (arith, size, few));
  at = λ apart.
      home-changed homes channel_states number channel_state homes.numbers.items are apart within
      (own apart)
      (λ other n at below. at);
}

-- A channel's receiver stays, and words are still to land only if they were.
pub record StaysAtHome (old new : ChannelState) : Type 0 where
  pub same : new.receiver ≡ old.receiver
  pub less : new.landed < new.accepted → old.landed < old.accepted

-- So is what enqueues words, takes them, or is counted.
pub StaysAtHome-refilled : (words : List ℕ) (cycle : ℕ) (parts : List Part)
    (channel_state : ChannelState)
    → StaysAtHome channel_state (refilled words cycle parts channel_state).1
StaysAtHome-refilled words cycle parts channel_state =
    elim (cases_Bool (is_open channel_state cycle)) [
      | inl opened ↦ rw opened (record { same = refl; less = λ waits. waits })
      | inr closed ↦ rw closed (record { same = refl; less = λ waits. waits })
    ]

pub StaysAtHome-pulled : (cycle : ℕ) (parts : List Part) (channel_state : ChannelState)
    → StaysAtHome channel_state (pulled cycle parts channel_state).1
StaysAtHome-pulled cycle parts channel_state =
    elim (cases_Bool (is_open channel_state cycle)) [
      | inl opened ↦ rw opened (record { same = refl; less = λ waits. waits })
      | inr closed ↦ rw closed (record { same = refl; less = λ waits. waits })
    ]

pub StaysAtHome-counted : (cycle : ℕ) (parts : List Part) (channel_state : ChannelState)
    → StaysAtHome channel_state (counted cycle parts channel_state)
StaysAtHome-counted cycle parts channel_state =
    elim (cases_Bool (is_open channel_state cycle)) [
      | inl opened ↦ rw opened (record { same = refl; less = λ waits. omega (arith, waits) })
      | inr closed ↦ rw closed (record { same = refl; less = λ waits. waits })
    ]

-- Such a channel is noted as before.
pub AreHomes-kept : (homes : Homes) (channel_states : List ChannelState) (number : ℕ)
    (old new : ChannelState)
    → slice_get channel_states number ≡ Some old → StaysAtHome old new
    → AreHomes homes channel_states → AreHomes homes (slice_set channel_states number new)
AreHomes-kept homes channel_states number old new at stays are =
    AreHomes-set homes channel_states number new (slice_get_within channel_states number old at)
    (λ apart waits.
    ap (λ (end : ChannelEnd). slice_get homes.numbers.items (home_at end.ni.0 end.queue)) stays.same
    ∙ are.at apart number old at (stays.less waits)) are

-- So of all channels.
pub AreHomes-map : (homes : Homes) (channel_states : List ChannelState)
    (change : ChannelState → ChannelState)
    → ((channel_state : ChannelState) → StaysAtHome channel_state (change channel_state))
    → AreHomes homes channel_states → AreHomes homes (map change channel_states)
AreHomes-map homes channel_states change stays are = record {
  size = are.size;
  few = (
      let size = length-map channel_states change in
      let few = are.few in
      omega (arith, size, few));
  at = λ apart number channel_state at waits.
      let found = from-map change channel_states number channel_state at in
      let old = found.0 in
      ap (λ (channel_state : ChannelState). slice_get homes.numbers.items
      (home_at channel_state.receiver.ni.0 channel_state.receiver.queue))
      found.2
      ∙ ap (λ (end : ChannelEnd). slice_get homes.numbers.items (home_at end.ni.0 end.queue))
      (stays old).same
      ∙ are.at apart number old found.1
      ((stays old).less
      (subst (λ (channel_state : ChannelState). channel_state.landed < channel_state.accepted)
      found.2 waits));
}

-- The masks mark as before where each channel changes so that it stays as it is marked.
pub AreMarked-map : (IsStill : ChannelState → Type 0) (masks : List ℕ)
    (channel_states : List ChannelState)
    (change : ChannelState → ChannelState)
    → ((channel_state : ChannelState) → IsStill channel_state → IsStill (change channel_state))
    → AreMarked IsStill masks channel_states → AreMarked IsStill masks (map change channel_states)
AreMarked-map IsStill masks channel_states change kept marked = record {
  size = (
      let size = length-map channel_states change in
      let room = marked.size in
      omega (arith, size, room));
  idle = λ number channel_state at bit.
      let found = from-map change channel_states number channel_state at in
      let still = marked.idle number found.0 found.1 bit in
      subst IsStill (sym found.2) (kept found.0 still);
}

-- Counting leaves idle channels so.
pub IsIdle-counted : (cycle : ℕ) (parts : List Part) (channel_state : ChannelState)
    → IsChannelIdle channel_state
    → IsChannelIdle (counted cycle parts channel_state)
IsIdle-counted cycle parts channel_state idle =
    subst IsChannelIdle (sym (counted-none cycle parts channel_state idle.landed)) idle
