-- A cycle of components: it is exact, and it keeps what holds of them and of the room of channels.
use Rattle.std.proofs.Common.{◌≡◌, ◌≤◌, ◌+◌, ◌∙◌, ℕ, zero, suc, List, [], ◌∷◌, Option, None, Some}
use Rattle.std.proofs.Common.{ap, arith, fold, inl, inr, length, map, refl, set, slice_get, subst}
use Rattle.std.proofs.Common.{sym, count_by}
use Rattle.std.proofs.lemmas.{Bool.cases_Bool, Option.same_Some, Option.slice_get-get_or}
use Rattle.std.specs.List.{All, range_with_len}
use Rattle.aeth_clocked.specs.declared.flit.Flit.{Flit}
use Rattle.aeth_router.specs.declared.part.Part.{Part}
use Rattle.aeth_components.specs.declared.event.Event.{Event}
use Rattle.aeth_components.specs.declared.channel_state.ChannelState.{ChannelState}
use Rattle.aeth_components.specs.Components.{ComponentsState, ComponentsCycle, IsComponents}
use Rattle.aeth_components.specs.Components.{components_of, driven_from, wirings_of, latched_of}
use Rattle.aeth_components.specs.Components.{moment_of, ready_of, switched_from}
use Rattle.aeth_components.specs.Counting.{counted, flits_counted, noted}
use Rattle.aeth_components.specs.Wirings.{Wiring, IsWired}
use Rattle.aeth_components.specs.ChannelStates.{IsChannelState, is_open}
use Rattle.aeth_components.specs.Phases.{Moment, pulled, refilled, turned, turned_at}
use Rattle.aeth_components.proofs.CountingLemmas.{IsChannelState-counted, length-flits_counted}
use Rattle.aeth_components.proofs.CountingLemmas.{length-notes}
use Rattle.aeth_components.proofs.WiringLemmas.{length-wires_driven}
use Rattle.aeth_components.proofs.TurnLemmas.{IsChannelState-pulled, IsChannelState-refilled}
use Rattle.aeth_running.specs.Network.{state_behind}
use Rattle.aeth_stimuli.specs.Stimuli.{Offer}
use Rattle.aeth_network.specs.Fits.{AreFit, IsFit, is_accepted}

-- Something holds of each channel, by its number.
abbrev Each : (ℕ → ChannelState → Type 0) → List ChannelState → Type 0
Each P channel_states = (number : ℕ) (channel_state : ChannelState)
    → slice_get channel_states number ≡ Some channel_state → P number channel_state

-- It does once one is written of which it holds.
each-set : (P : ℕ → ChannelState → Type 0) (channel_states : List ChannelState) (number : ℕ)
    (next : ChannelState)
    → P number next → Each P channel_states → Each P (set channel_states number next)
each-set P [] number next own each k channel_state at = each k channel_state at
each-set P (first ∷ channel_states) zero next own each zero channel_state at =
    subst (P zero) (same_Some next channel_state at) own
each-set P (first ∷ channel_states) zero next own each (suc k) channel_state at =
    each (suc k) channel_state at
each-set P (first ∷ channel_states) (suc number) next own each zero channel_state at =
    each zero channel_state at
each-set P (first ∷ channel_states) (suc number) next own each (suc k) channel_state at =
    each-set (λ n. P (suc n)) channel_states number next own (λ n one there. each (suc n) one there)
    k channel_state
    at

-- It does once all have changed so that it still holds.
each-map : (P : ℕ → ChannelState → Type 0) (change : ChannelState → ChannelState)
    → ((number : ℕ) (channel_state : ChannelState) → P number channel_state
    → P number (change channel_state)) → (channel_states : List ChannelState)
    → Each P channel_states → Each P (map change channel_states)
each-map P change kept [] each k channel_state at = each k channel_state at
each-map P change kept (first ∷ channel_states) each zero channel_state at =
    subst (P zero) (same_Some (change first) channel_state at)
    (kept zero first (each zero first refl))
each-map P change kept (first ∷ channel_states) each (suc k) channel_state at =
    each-map (λ n. P (suc n)) change (λ n one holds. kept (suc n) one holds) channel_states
    (λ n one there. each (suc n) one there) k channel_state at

-- What each turn keeps, all turns do.
module _ (turn : List Part → ChannelState → List Part × ChannelState)
    (P : ℕ → ChannelState → Type 0)
    (kept : (number : ℕ) (parts : List Part) (channel_state : ChannelState) → P number channel_state
    → P number (turn parts channel_state).1) where
  each-turned_at : (moment : Moment) (number : ℕ) (found : Option ChannelState)
      → slice_get moment.channel_states number ≡ found → Each P moment.channel_states
      → Each P (turned_at turn moment number found).channel_states
  each-turned_at moment number None at each = each
  each-turned_at moment number (Some channel_state) at each =
      each-set P moment.channel_states number (turn moment.parts channel_state).1
      (kept number moment.parts channel_state (each number channel_state at)) each

  each-turns : (numbers : List ℕ) (moment : Moment) → Each P moment.channel_states
      → Each P (fold (turned turn) moment numbers).channel_states
  each-turns [] moment each = each
  each-turns (number ∷ numbers) moment each =
      each-turns numbers (turned turn moment number)
      (each-turned_at moment number (slice_get moment.channel_states number) refl each)

-- A turn changes neither a session's first word nor how many it has accepted.
first-refilled : (words : List ℕ) (cycle : ℕ) (parts : List Part) (channel_state : ChannelState)
    → (refilled words cycle parts channel_state).1.first
    + (refilled words cycle parts channel_state).1.accepted
    ≡ channel_state.first + channel_state.accepted
first-refilled words cycle parts channel_state =
    elim (cases_Bool (is_open channel_state cycle)) [
      | inl opened ↦ rw opened refl
      | inr closed ↦ rw closed refl
    ]

first-pulled : (cycle : ℕ) (parts : List Part) (channel_state : ChannelState)
    → (pulled cycle parts channel_state).1.first + (pulled cycle parts channel_state).1.accepted
    ≡ channel_state.first + channel_state.accepted
first-pulled cycle parts channel_state =
    elim (cases_Bool (is_open channel_state cycle)) [
      | inl opened ↦ rw opened refl
      | inr closed ↦ rw closed refl
    ]

first-counted : (cycle : ℕ) (parts : List Part) (channel_state : ChannelState)
    → (counted cycle parts channel_state).first + (counted cycle parts channel_state).accepted
    ≡ channel_state.first + channel_state.accepted
first-counted cycle parts channel_state =
    elim (cases_Bool (is_open channel_state cycle)) [
      | inl opened ↦ rw opened refl
      | inr closed ↦ rw closed refl
    ]

-- A cycle keeps the room of channels.
pub AreFit-Cycle : (events : List Event) (cycle parts : ℕ) (old new : ComponentsState)
    (untils : List ℕ) (coming : List Offer) → ComponentsCycle events cycle old new
    → AreFit (length old.words) parts untils coming old.channel_states
    → AreFit (length old.words) parts untils coming new.channel_states
AreFit-Cycle events cycle parts old new untils coming did fit =
    let words = length old.words in
    let P = λ (number : ℕ) (channel_state : ChannelState). IsFit words parts untils coming number
    channel_state in
    let moved = λ (number : ℕ) (channel_state next : ChannelState) (is : P number channel_state)
    (sound : IsChannelState words parts next)
    (same : next.first + next.accepted ≡ channel_state.first + channel_state.accepted).
    let room = is.room in
    let fits : next.first + next.accepted + count_by (is_accepted untils number) coming ≤ words =
    omega arith in
    let now : P number next = record { sound = sound; room = fits } in now in
    let start : Moment = switched_from events (moment_of old) in
    let ready : Moment = ready_of old.words events cycle (moment_of old) in
    let away : Moment = driven_from cycle ready in
    let latched : Moment = latched_of old.words events cycle new.wires (moment_of old) in
    let after_refill : Each P ready.channel_states =
    each-turns (refilled old.words cycle) P (λ number list channel_state is.
    moved number channel_state (refilled old.words cycle list channel_state).1 is
    (IsChannelState-refilled old.words cycle parts list channel_state is.sound)
    (first-refilled old.words cycle list channel_state))
    (range_with_len 0 (length start.channel_states)) start fit in
    let after_take : Each P latched.channel_states =
    each-turns (pulled cycle) P (λ number list channel_state is.
    moved number channel_state (pulled cycle list channel_state).1 is
    (IsChannelState-pulled words cycle parts list channel_state is.sound)
    (first-pulled cycle list channel_state))
    (range_with_len 0 (length away.channel_states)) away after_refill in
    subst (Each P) (sym did.channel_states)
    (each-map P (counted cycle latched.parts) (λ number channel_state is.
    moved number channel_state (counted cycle latched.parts channel_state) is
    (IsChannelState-counted words cycle parts latched.parts channel_state is.sound)
    (first-counted cycle latched.parts channel_state)) latched.channel_states after_take)

-- What is said of each channel holds of all.
pub All-fit : (words parts : ℕ) (untils : List ℕ) (coming : List Offer)
    (channel_states : List ChannelState)
    → AreFit words parts untils coming channel_states
    → All (IsChannelState words parts) channel_states
All-fit words parts untils coming channel_states fit =
    λ k d within. (fit k _ (slice_get-get_or channel_states k d within)).sound

-- A cycle keeps what holds of components.
pub IsComponents-Cycle : (events : List Event) (cycle : ℕ) (old new : ComponentsState)
    → ComponentsCycle events cycle old new → IsComponents old
    → All (IsChannelState (length old.words) (length old.parts)) new.channel_states
    → IsComponents new
IsComponents-Cycle events cycle old new did is channel_states =
    let latched = latched_of old.words events cycle new.wires (moment_of old) in
    let wires = ap length did.wires
    ∙ length-wires_driven (ready_of old.words events cycle (moment_of old)).parts
    (length old.wires) cycle in
    let flits = ap length did.flits ∙ length-flits_counted new.wires old.flits in
    let fewer = is.flits in
    let few = is.few in
    let words = ap length did.words in
    let notes = ap length did.landings
    ∙ length-notes cycle latched.parts latched.channel_states old.landings in
    let landings = is.landings in
    record {
      wired = subst (λ n. IsWired (wirings_of new) n) (sym wires)
          (subst (λ (wirings : List Wiring). IsWired wirings (length old.wires)) (sym did.wirings)
          is.wired);
      channel_states =
          subst (λ n. All (IsChannelState n (length new.parts)) new.channel_states) (sym words)
          (subst (λ n. All (IsChannelState (length old.words) n) new.channel_states) (sym did.size)
          channel_states);
      landings = omega arith;
      flits = omega arith;
      few = omega arith;
    }

-- Components whose lists are the same.
same-lists : (parts parts_too : List Part) (wires : List (Option Flit))
    (channel_states channel_states_too : List ChannelState)
    (words words_too landings landings_too flits flits_too : List ℕ)
    → parts ≡ parts_too → channel_states ≡ channel_states_too → words ≡ words_too
    → landings ≡ landings_too
    → flits ≡ flits_too
    → components_of parts wires channel_states words landings flits
    ≡ components_of parts_too wires channel_states_too words_too landings_too flits_too
same-lists parts parts_too wires channel_states channel_states_too words words_too landings
    landings_too flits flits_too
    same_parts same_channel_states same_words same_landings same_flits =
    rw (same_parts, same_channel_states, same_words, same_landings, same_flits) refl

-- A cycle is exact.
pub Cycle-is : (events : List Event) (cycle : ℕ) (old new : ComponentsState)
    → ComponentsCycle events cycle old new → new ≡ state_behind events cycle old
Cycle-is events cycle old new did =
    let behind = λ (wires : List (Option Flit)).
    let latched = latched_of old.words events cycle wires (moment_of old) in
    components_of latched.parts wires (map (counted cycle latched.parts) latched.channel_states)
    old.words
    (fold (noted cycle latched.parts) old.landings latched.channel_states)
    (flits_counted wires old.flits) in
    let latched = latched_of old.words events cycle new.wires (moment_of old) in
    same-lists new.parts latched.parts new.wires new.channel_states
    (map (counted cycle latched.parts) latched.channel_states) new.words old.words new.landings
    (fold (noted cycle latched.parts) old.landings latched.channel_states) new.flits
    (flits_counted new.wires old.flits) did.parts did.channel_states did.words did.landings
    did.flits
    ∙ ap behind did.wires
