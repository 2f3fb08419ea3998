-- Laws of the walk in which channels at some interfaces are counted that may not be idle.
use Rattle.std.proofs.Common.{ℕ, zero, suc, ◌≡◌, ◌<◌, ◌≤◌, ◌+◌, ◌-◌, ◌∙◌, refl, sym, ap, subst}
use Rattle.std.proofs.Common.{arith, List, [], ◌∷◌, ◌++◌, drop, fold, get_or, length, map, set}
use Rattle.std.proofs.Common.{take, Bool, false, true, append-nil, take_all}
use Rattle.std.proofs.lemmas.{List.drop_all, Option.get_or_from_slice_get}
use Rattle.std.specs.List.{All}
use Rattle.aeth_router.specs.declared.part.Part.{Part}
use Rattle.aeth_components.specs.declared.channel_state.ChannelState.{ChannelState}
use Rattle.aeth_components.specs.Busy.{IsChannelIdle}
use Rattle.aeth_components.specs.Channels.{AreStill, OfChannelState}
use Rattle.aeth_components.specs.Counting.{counted, counted_among, noted, noted_among}
use Rattle.aeth_components.specs.ChannelStates.{IsChannelState, with_channel_state}
use Rattle.aeth_components.proofs.{AmongLemmas.stays, CountingLemmas.IsChannelState-ahead}
use Rattle.aeth_components.proofs.{CountingLemmas.brings-none, CountingLemmas.map-more}
use Rattle.aeth_components.proofs.{CountingLemmas.noted-more}
use Rattle.aeth_components.proofs.{ChannelStateLemmas.channel_state-within}
use Rattle.aeth_components.proofs.{ChannelStateLemmas.length-with_channel_state}
use Rattle.aeth_components.proofs.{ChannelStateLemmas.set-with_channel_state, SkipLemmas.set-there}

-- Two changes that agree on a channel change it alike.
with_channel_state-same : (channel_states : List ChannelState) (number : ℕ)
    (change other : ChannelState → ChannelState)
    → OfChannelState channel_states number
    (λ channel_state. change channel_state ≡ other channel_state)
    → with_channel_state number change channel_states
    ≡ with_channel_state number other channel_states
with_channel_state-same [] number change other same = refl
with_channel_state-same (channel_state ∷ channel_states) zero change other same =
    ap (λ (channel_state : ChannelState). channel_state ∷ channel_states) (same channel_state refl)
with_channel_state-same (channel_state ∷ channel_states) (suc number) change other same =
    ap (λ (rest : List ChannelState). channel_state ∷ rest)
    (with_channel_state-same channel_states number change other same)

-- The channels below a number that are at some interfaces are counted, and their landings noted.
pub record AreCounted (among : ℕ → Bool) (cycle : ℕ) (parts : List Part)
    (before : List ChannelState)
    (first : List ℕ) (channel_states : List ChannelState) (landings : List ℕ) (number : ℕ) : Type
    0 where
  pub channel_states_are : channel_states
      ≡ map (counted_among among cycle parts) (take number before) ++ drop number before
  pub landings_are : landings ≡ fold (noted_among among cycle parts) first (take number before)
  pub within : number ≤ length before
  pub size : length channel_states ≡ length before

-- None yet.
pub AreCounted-first : {among : ℕ
    → Bool} {cycle : ℕ} {parts : List Part} {before : List ChannelState}
    {first : List ℕ} → AreCounted among cycle parts before first before first 0
AreCounted-first =
    record { channel_states_are = refl; landings_are = refl; within = omega arith; size = refl }

module _ {among : ℕ
    → Bool} {cycle : ℕ} {parts : List Part} {before channel_states : List ChannelState}
    {first landings : List ℕ} {number : ℕ}
    (are : AreCounted among cycle parts before first channel_states landings number) where
  -- The next channel is as sound as it was.
  pub AreCounted-sound : (words count : ℕ) → number < length channel_states
      → All (IsChannelState words count) before
      → OfChannelState channel_states number (IsChannelState words count)
  AreCounted-sound words count within sound channel_state at =
      let size = are.size in
      subst (IsChannelState words count)
      (get_or_from_slice_get channel_states number channel_state channel_state at)
      (IsChannelState-ahead words count (counted_among among cycle parts) before channel_states
      number channel_state (omega arith)
      are.channel_states_are (sound number channel_state (omega arith)))

  -- It is passed.
  AreCounted-next : {new : List ChannelState} {new_landings : List ℕ}
      → number < length channel_states
      → new ≡ with_channel_state number (counted_among among cycle parts) channel_states
      → OfChannelState channel_states number
      (λ channel_state. new_landings ≡ noted_among among cycle parts landings channel_state)
      → AreCounted among cycle parts before first new new_landings (number + 1)
  AreCounted-next {new} {new_landings} within did note =
      let size = are.size in
      let count = counted_among among cycle parts in
      let there = channel_state-within channel_states number within in
      let channel_state = there.0 in
      let is : get_or channel_states number channel_state ≡ channel_state =
      get_or_from_slice_get channel_states number channel_state channel_state there.1 in
      record {
        channel_states_are = did
            ∙ sym (set-with_channel_state channel_states number count channel_state within)
            ∙ map-more count before channel_states number channel_state
            (count (get_or channel_states number channel_state)) (omega arith)
            are.channel_states_are refl;
        landings_are =
            noted-more count (noted_among among cycle parts) before channel_states first landings
            new_landings number channel_state (omega arith) are.channel_states_are are.landings_are
            (note channel_state there.1 ∙ ap (noted_among among cycle parts landings) (sym is));
        within = omega arith;
        size = ap length did ∙ length-with_channel_state number count channel_states ∙ are.size;
      }

  -- One more is counted that is at one of the interfaces.
  pub AreCounted-more : {new : List ChannelState} {new_landings : List ℕ}
      → number < length channel_states
      → OfChannelState channel_states number
      (λ channel_state. among channel_state.receiver.ni.0 ≡ true)
      → new ≡ with_channel_state number (counted cycle parts) channel_states
      → OfChannelState channel_states number
      (λ channel_state. new_landings ≡ noted cycle parts landings channel_state)
      → AreCounted among cycle parts before first new new_landings (number + 1)
  AreCounted-more within own did note =
      AreCounted-next within
      (did ∙ with_channel_state-same channel_states number (counted cycle parts)
      (counted_among among cycle parts)
      (λ channel_state at. let here = own channel_state at in rw here refl))
      (λ channel_state at. let here = own channel_state at in rw here (note channel_state at))

  -- One stays that is counted as it is.
  AreCounted-stays : number < length channel_states
      → OfChannelState channel_states number
      (λ channel_state. (counted_among among cycle parts channel_state ≡ channel_state)
      × ((landings : List ℕ) → noted_among among cycle parts landings channel_state ≡ landings))
      → AreCounted among cycle parts before first channel_states landings (number + 1)
  AreCounted-stays within stay =
      let count = counted_among among cycle parts in
      let there = channel_state-within channel_states number within in
      let channel_state = there.0 in
      let here : get_or channel_states number channel_state ≡ channel_state =
      get_or_from_slice_get channel_states number channel_state channel_state there.1 in
      AreCounted-next within
      (sym (set-there channel_states number channel_state there.1)
      ∙ ap (set channel_states number) (sym (stay channel_state there.1).0 ∙ ap count (sym here))
      ∙ set-with_channel_state channel_states number count channel_state within)
      (λ channel_state at. sym ((stay channel_state at).1 landings))

  -- So does one that is at none of them.
  pub AreCounted-away : number < length channel_states
      → OfChannelState channel_states number
      (λ channel_state. among channel_state.receiver.ni.0 ≡ false)
      → AreCounted among cycle parts before first channel_states landings (number + 1)
  AreCounted-away within away =
      AreCounted-stays within
      (λ channel_state at. let gone =
      away channel_state at in (rw gone refl, λ landings. rw gone refl))

  -- Behind the last channel all are counted.
  pub counted-all : length channel_states ≤ number
      → channel_states ≡ map (counted_among among cycle parts) before
  counted-all over =
      let size = are.size in
      let within = are.within in
      are.channel_states_are
      ∙ rw (take_all number before (omega arith), drop_all number before (omega arith))
      (append-nil (map (counted_among among cycle parts) before))

  pub noted-all : length channel_states ≤ number
      → landings ≡ fold (noted_among among cycle parts) first before
  noted-all over =
      let size = are.size in
      are.landings_are
      ∙ ap (fold (noted_among among cycle parts) first) (take_all number before (omega arith))

module _ {among : ℕ
    → Bool} {cycle : ℕ} {parts : List Part} {before channel_states : List ChannelState}
    {first landings : List ℕ} {number : ℕ}
    (are : AreCounted among cycle parts before first channel_states landings number) where
  -- Idle channels are counted as they are.
  AreCounted-skipped : (gap : ℕ) → number + gap ≤ length channel_states
      → AreStill IsChannelIdle channel_states number (number + gap)
      → AreCounted among cycle parts before first channel_states landings (number + gap)
  AreCounted-skipped zero within idle =
      let same : number ≡ number + 0 = omega arith in
      subst (AreCounted among cycle parts before first channel_states landings) same are
  AreCounted-skipped (suc gap) within idle =
      let place = number + gap in
      let next : place + 1 ≡ number + suc gap = omega arith in
      let less = AreCounted-skipped gap (omega arith)
      (λ other channel_state from below. idle other channel_state from (omega arith)) in
      subst (AreCounted among cycle parts before first channel_states landings) next
      (AreCounted-stays less (omega arith)
      (λ channel_state at. stays cycle parts among channel_state
      (λ here. brings-none parts channel_state
      (idle place channel_state (omega arith) (omega arith) at).landed)))

  pub AreCounted-until : {next : ℕ} → number ≤ next → next ≤ length channel_states
      → AreStill IsChannelIdle channel_states number next
      → AreCounted among cycle parts before first channel_states landings next
  AreCounted-until {next} order within idle =
      let there : number + (next - number) ≡ next = omega arith in
      subst (AreCounted among cycle parts before first channel_states landings) there
      (AreCounted-skipped (next - number) (omega arith)
      (λ other channel_state from below. idle other channel_state from (omega arith)))
