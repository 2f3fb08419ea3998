-- Components that a cycle leaves as they are: none of its phases changes anything.
use Rattle.std.proofs.Common.{◌≡◌, ◌∙◌, ℕ, suc, List, [], ◌∷◌, Option, Some, None, ap, fold, length}
use Rattle.std.proofs.Common.{map, refl, replicate, set, slice_get, sym}
use Rattle.std.proofs.lemmas.{List.set-get_or, Option.get_or_from_slice_get}
use Rattle.std.specs.List.{range_with_len}
use Rattle.aeth_clocked.specs.{Wires.flit_on, declared.flit.Flit.Flit}
use Rattle.aeth_clocked.proofs.ClearLemmas.{all-empty}
use Rattle.aeth_router.specs.{Part.absorb_of, Part.after_of, declared.part.Part.Part}
use Rattle.aeth_components.proofs.CountingLemmas.{counted-still, noted-still}
use Rattle.aeth_components.specs.Components.{ComponentsState, components_of, driven_from}
use Rattle.aeth_components.specs.Components.{latched_from, latched_of, moment_of, ready_of}
use Rattle.aeth_components.specs.Components.{wires_driven}
use Rattle.aeth_components.specs.Counting.{brings, counted, flits_counted, noted, with_flit}
use Rattle.aeth_components.specs.Phases.{Moment, in_turn, pulled, refilled, turned, turned_at}
use Rattle.aeth_components.specs.Phases.{turned_by}
use Rattle.aeth_components.specs.declared.channel_state.ChannelState.{ChannelState}
use Rattle.aeth_running.specs.Network.{state_behind}

-- Where a change leaves each item, it leaves the list.
pub map-rests : {X : Type 0} (change : X → X) (xs : List X)
    → ((i : ℕ) (x : X) → slice_get xs i ≡ Some x → change x ≡ x) → map change xs ≡ xs
map-rests change [] rests = refl
map-rests {X} change (x ∷ xs) rests =
    ap (λ (one : X). one ∷ map change xs) (rests 0 x refl)
    ∙ ap (λ (others : List X). x ∷ others) (map-rests change xs (λ i y at. rests (suc i) y at))

-- Where a turn leaves each channel and all components, all turns do.
module _ (turn : List Part → ChannelState → List Part × ChannelState) (moment : Moment)
    (rests : (number : ℕ) (channel_state : ChannelState)
    → slice_get moment.channel_states number ≡ Some channel_state
    → turn moment.parts channel_state ≡ (moment.parts, channel_state)) where
  turned-rests : (number : ℕ) (found : Option ChannelState)
      → slice_get moment.channel_states number ≡ found
      → turned_at turn moment number found ≡ moment
  turned-rests number None at = refl
  turned-rests number (Some channel_state) at =
      ap (turned_by moment number) (rests number channel_state at)
      ∙ ap (λ (channel_states : List ChannelState).
      record { parts = moment.parts; channel_states = channel_states })
      (ap (set moment.channel_states number)
      (sym (get_or_from_slice_get moment.channel_states number channel_state channel_state at))
      ∙ set-get_or moment.channel_states number channel_state)

  turns-rest : (numbers : List ℕ) → fold (turned turn) moment numbers ≡ moment
  turns-rest [] = refl
  turns-rest (number ∷ numbers) =
      ap (λ (one : Moment). fold (turned turn) one numbers)
      (turned-rests number (slice_get moment.channel_states number) refl)
      ∙ turns-rest numbers

  pub in_turn-rests : in_turn turn moment ≡ moment
  in_turn-rests = turns-rest (range_with_len 0 (length moment.channel_states))

-- Empty wires count no flit.
flits_counted-rests : (wires : List (Option Flit)) (counts : List ℕ)
    → ((l : ℕ) → flit_on wires l ≡ None) → flits_counted wires counts ≡ counts
flits_counted-rests [] counts empty = refl
flits_counted-rests (wire ∷ wires) [] empty = refl
flits_counted-rests (wire ∷ wires) (count ∷ counts) empty =
    ap (λ (one : Option Flit). with_flit one count ∷ flits_counted wires counts) (empty 0)
    ∙ ap (λ (others : List ℕ). count ∷ others)
    (flits_counted-rests wires counts (λ l. empty (suc l)))

-- Two lists of wires that are all empty are one list, where they are as long.
pub both-empty : (one other : List (Option Flit)) → length one ≡ length other
    → ((l : ℕ) → flit_on one l ≡ None) → ((l : ℕ) → flit_on other l ≡ None) → one ≡ other
both-empty one other size first second =
    all-empty one (λ l within. first l) ∙ ap (λ n. replicate n None) size
    ∙ sym (all-empty other (λ l within. second l))

module _ (all : ComponentsState) (cycle : ℕ) (empty : (l : ℕ) → flit_on all.wires l ≡ None)
    (enqueues : (number : ℕ) (channel_state : ChannelState)
    → slice_get all.channel_states number ≡ Some channel_state
    → refilled all.words cycle all.parts channel_state ≡ (all.parts, channel_state))
    (takes : (number : ℕ) (channel_state : ChannelState)
    → slice_get all.channel_states number ≡ Some channel_state
    → pulled cycle all.parts channel_state ≡ (all.parts, channel_state))
    (drives : (i : ℕ) (part : Part) → slice_get all.parts i ≡ Some part → after_of part cycle ≡ part)
    (sends : wires_driven all.parts (length all.wires) cycle ≡ all.wires)
    (latches : (i : ℕ) (part : Part) → slice_get all.parts i ≡ Some part
    → absorb_of part all.wires ≡ part)
    (lands : (channel_state : ChannelState) → brings all.parts channel_state ≡ 0) where
  refilled-all : ready_of all.words [] cycle (moment_of all) ≡ moment_of all
  refilled-all = in_turn-rests (refilled all.words cycle) (moment_of all) enqueues

  latched-all : latched_of all.words [] cycle all.wires (moment_of all) ≡ moment_of all
  latched-all =
      ap (λ (one : Moment). latched_from all.wires (in_turn (pulled cycle) (driven_from cycle one)))
      refilled-all
      ∙ ap (λ (parts : List Part). latched_from all.wires
      (in_turn (pulled cycle) (record { parts = parts; channel_states = all.channel_states })))
      (map-rests (λ part. after_of part cycle) all.parts drives)
      ∙ ap (latched_from all.wires) (in_turn-rests (pulled cycle) (moment_of all) takes)
      ∙ ap (λ (parts : List Part). record { parts = parts; channel_states = all.channel_states })
      (map-rests (λ part. absorb_of part all.wires) all.parts latches)

  channel_states-rest : map (counted cycle all.parts) all.channel_states ≡ all.channel_states
  channel_states-rest = map-rests (counted cycle all.parts) all.channel_states
      (λ i channel_state at. counted-still cycle all.parts channel_state (lands channel_state))

  landings-rest : (channel_states : List ChannelState)
      → fold (noted cycle all.parts) all.landings channel_states ≡ all.landings
  landings-rest [] = refl
  landings-rest (channel_state ∷ channel_states) =
      ap (λ (landings : List ℕ). fold (noted cycle all.parts) landings channel_states)
      (noted-still cycle all.parts all.landings channel_state (lands channel_state))
      ∙ landings-rest channel_states

  -- What is counted behind wires and a moment.
  abbrev logged_by : List (Option Flit) → Moment → ComponentsState
  logged_by wires latched =
      components_of latched.parts wires (map (counted cycle latched.parts) latched.channel_states)
      all.words
      (fold (noted cycle latched.parts) all.landings latched.channel_states)
      (flits_counted wires all.flits)

  -- So the cycle leaves them.
  pub state-rests : state_behind [] cycle all ≡ all
  state-rests =
      ap (λ (one : Moment).
      let wires = wires_driven one.parts (length all.wires) cycle in
      logged_by wires (latched_of all.words [] cycle wires (moment_of all))) refilled-all
      ∙ ap (λ (wires : List (Option Flit)).
      logged_by wires (latched_of all.words [] cycle wires (moment_of all))) sends
      ∙ ap (logged_by all.wires) latched-all
      ∙ (λ i. components_of all.parts all.wires (channel_states-rest i) all.words
      (landings-rest all.channel_states i)
      (flits_counted-rests all.wires all.flits empty i))
