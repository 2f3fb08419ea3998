-- A cycle without events that leaves the components: no wire has a flit, no interface sends, and all channels are idle.
use Rattle.std.proofs.Common.{ℕ, suc, ◌≡◌, ◌≤◌, ◌∙◌, refl, sym, ap, arith, List, [], ◌∷◌, Option}
use Rattle.std.proofs.Common.{Some, None, ap₂, false, fold, inl, length, map, option_and_then}
use Rattle.std.proofs.Common.{replicate, slice_get, subst, zero}
use Rattle.std.proofs.lemmas.{List.length-replicate, Option.slice_get_within}
use Rattle.aeth_clocked.specs.{Wires.flit_on, declared.flit.Flit.Flit}
use Rattle.aeth_clocked.proofs.ClearLemmas.{all-empty}
use Rattle.aeth_router.specs.declared.part.Part.{Part}
use Rattle.aeth_router.specs.declared.part.Part.TheVariants.{Interface, Router, Stage, TableRouter}
use Rattle.aeth_router.specs.Onward.{CameFrom, Nothing, arrival_at, carried}
use Rattle.aeth_router.specs.Passing.{passed}
use Rattle.aeth_router.proofs.PassingLemmas.{passed-empty}
use Rattle.aeth_components.specs.{Changes.on_interface}
use Rattle.aeth_components.specs.{declared.channel_state.ChannelState.ChannelState}
use Rattle.aeth_components.specs.{declared.ends.Ends.Ends, declared.enqueuing.Enqueuing.Enqueuing}
use Rattle.aeth_components.specs.{Busy.IsChannelIdle, Channels.AreStill, Ends.AreEnds}
use Rattle.aeth_components.specs.{Components.ComponentsCycle, Components.ComponentsState}
use Rattle.aeth_components.specs.{Components.Runs, Components.wires_driven, Counting.counted}
use Rattle.aeth_components.specs.{Counting.flits_counted, Counting.noted, Counting.with_flit}
use Rattle.aeth_components.specs.{Enqueuing.HasWaitingPlaces, FlitsOnWires.sends_own}
use Rattle.aeth_components.specs.{Passing.part_at, Passing.passed_from, Phases.Moment}
use Rattle.aeth_components.specs.{Phases.in_turn, Phases.pulled, Phases.refilled, Seen.all_seen}
use Rattle.aeth_components.specs.{Seen.flits_landed, Seen.interfaces_driven}
use Rattle.aeth_components.specs.{Seen.interfaces_latched, Seen.landed, Seen.taken_of}
use Rattle.aeth_components.specs.{Wirings.IsWired, Wirings.wiring_of}
use Rattle.aeth_components.proofs.CountedCycle.{Cycle-counted}
use Rattle.aeth_components.proofs.CountingLemmas.{brings-none, counted-none, noted-still}
use Rattle.aeth_components.proofs.DriveLemmas.{wires-driven}
use Rattle.aeth_components.proofs.InjectLemmas.{InjectedTo, InjectedTo-first, InjectedTo-parts}
use Rattle.aeth_components.proofs.InjectLemmas.{InjectedTo-until, InjectedTo-wires}
use Rattle.aeth_components.proofs.SeenPhases.{Runs-landed}
use Rattle.aeth_components.proofs.SkipLemmas.{HaveTurned-all, HaveTurned-first}
use Rattle.aeth_components.proofs.TurnLemmas.{pulled-none, refilled-none}

-- Where a turn leaves each channel, all turns do.
turns-rest : (turn : List Part → ChannelState → List Part × ChannelState) (moment : Moment)
    → AreStill (λ channel_state. turn moment.parts channel_state ≡ (moment.parts, channel_state))
    moment.channel_states 0 (length moment.channel_states) → moment ≡ in_turn turn moment
turns-rest turn moment still =
    HaveTurned-all (HaveTurned-first {turn = turn} {before = moment}
    {next = length moment.channel_states} (omega arith) still) (omega arith)

-- Nothing came to any wire.
nothing-at : (count wire : ℕ) → arrival_at (replicate count Nothing) wire ≡ Nothing
nothing-at zero wire = refl
nothing-at (suc count) zero = refl
nothing-at (suc count) (suc wire) = nothing-at count wire

none-carried : (count : ℕ) → replicate count None ≡ map carried (replicate count Nothing)
none-carried zero = refl
none-carried (suc count) = ap (λ (wires : List (Option Flit)). None ∷ wires) (none-carried count)

-- Where no wire has a flit, none is passed on.
found-empty : (found : Option Part) (cycle out wire : ℕ)
    → option_and_then (λ part. passed part cycle out wire None) found ≡ None
found-empty None cycle out wire = refl
found-empty (Some part) cycle out wire = passed-empty part cycle out wire

-- And no component latches one.
lands-none : (wires : List (Option Flit)) → ((wire : ℕ) → flit_on wires wire ≡ None)
    → (part : Part)
    → on_interface (λ ni. landed (flit_on wires ni.entering.0) ni) part ≡ part
lands-none wires empty (Interface ni) =
    ap (λ (flit : Option Flit). Interface (landed flit ni)) (empty ni.entering.0)
lands-none wires empty (Router router) = refl
lands-none wires empty (TableRouter router) = refl
lands-none wires empty (Stage stage) = refl

land-none : (wires : List (Option Flit)) → ((wire : ℕ) → flit_on wires wire ≡ None)
    → (parts : List Part) → flits_landed wires parts ≡ parts
land-none wires empty [] = refl
land-none wires empty (part ∷ parts) =
    ap₂ (λ (one : Part) (others : List Part). one ∷ others) (lands-none wires empty part)
    (land-none wires empty parts)

-- Nor is one counted.
flits-none : (wires : List (Option Flit)) → ((wire : ℕ) → flit_on wires wire ≡ None)
    → (counts : List ℕ) → counts ≡ flits_counted wires counts
flits-none [] empty counts = refl
flits-none (wire ∷ wires) empty [] = refl
flits-none (wire ∷ wires) empty (count ∷ counts) =
    ap₂ (λ (one : Option Flit) (others : List ℕ). with_flit one count ∷ others) (sym (empty 0))
    (flits-none wires (λ other. empty (suc other)) counts)

-- Channels of which all words have landed are counted as they were, and nothing is noted of them.
counts-none : (cycle : ℕ) (parts : List Part) (channel_states : List ChannelState)
    → ((number : ℕ) (channel_state : ChannelState) → slice_get channel_states number ≡ Some channel_state
    → IsChannelIdle channel_state)
    → channel_states ≡ map (counted cycle parts) channel_states
counts-none cycle parts [] idle = refl
counts-none cycle parts (channel_state ∷ channel_states) idle =
    ap₂ (λ (one : ChannelState) (others : List ChannelState). one ∷ others)
    (sym (counted-none cycle parts channel_state (idle 0 channel_state refl).landed))
    (counts-none cycle parts channel_states (λ number. idle (suc number)))

notes-none : (cycle : ℕ) (parts : List Part) (landings : List ℕ) (channel_states : List ChannelState)
    → ((number : ℕ) (channel_state : ChannelState) → slice_get channel_states number ≡ Some channel_state
    → IsChannelIdle channel_state)
    → landings ≡ fold (noted cycle parts) landings channel_states
notes-none cycle parts landings [] idle = refl
notes-none cycle parts landings (channel_state ∷ channel_states) idle =
    notes-none cycle parts landings channel_states (λ number. idle (suc number))
    ∙ ap (λ (now : List ℕ). fold (noted cycle parts) now channel_states)
    (sym (noted-still cycle parts landings channel_state
    (brings-none parts channel_state (idle 0 channel_state refl).landed)))

-- The components as they stand are `all`.
module _ (cycle : ℕ) (all : ComponentsState) (ends : Ends) (enqueuing : Enqueuing)
    (wired : IsWired (map wiring_of all.parts) (length all.wires))
    (are : AreEnds (map wiring_of all.parts) (length all.wires) ends)
    (places : HasWaitingPlaces enqueuing) (empty : (wire : ℕ) → flit_on all.wires wire ≡ None)
    (mute : (number : ℕ) (part : Part) → slice_get all.parts number ≡ Some part
    → sends_own cycle part ≡ false)
    (still : AreStill IsChannelIdle all.channel_states 0 (length all.channel_states)) where
  idle : (number : ℕ) (channel_state : ChannelState)
      → slice_get all.channel_states number ≡ Some channel_state → IsChannelIdle channel_state
  idle number channel_state at =
      still number channel_state (omega arith) (slice_get_within all.channel_states number channel_state at) at

  -- No word is enqueued, and none is taken.
  enqueued-none : (parts : List Part)
      → record { parts = parts; channel_states = all.channel_states }
      ≡ in_turn (refilled all.words cycle)
      (record { parts = parts; channel_states = all.channel_states })
  enqueued-none parts =
      turns-rest (refilled all.words cycle)
      (record { parts = parts; channel_states = all.channel_states })
      (λ number channel_state from below at. refilled-none all.words cycle parts channel_state
      (idle number channel_state at).enqueued)

  taken-none : record { parts = all.parts; channel_states = all.channel_states }
      ≡ in_turn (pulled cycle) (record { parts = all.parts; channel_states = all.channel_states })
  taken-none =
      turns-rest (pulled cycle)
      (record { parts = all.parts; channel_states = all.channel_states })
      (λ number channel_state from below at. pulled-none cycle all.parts channel_state
      (inl (idle number channel_state at).taken))

  -- No interface drives anything.
  injected : InjectedTo cycle all.parts all.wires enqueuing 0 (length all.parts) all.parts all.wires
      enqueuing 0
  injected =
      InjectedTo-until (InjectedTo-first cycle all.parts all.wires enqueuing 0 places)
      (length all.parts) (omega arith) (λ number part at over below. mute number part at)

  driven-none : all.parts ≡ interfaces_driven cycle all.parts
  driven-none = InjectedTo-parts injected (omega arith)

  -- So the wires stay empty.
  wires-none : all.wires ≡ wires_driven (all_seen all.wires all.parts) (length all.wires) cycle
  wires-none =
      let arrivals = replicate (length all.wires) Nothing in
      wires-driven all.parts all.wires ends cycle wired are arrivals
      (length-replicate (length all.wires) Nothing)
      (λ out within. subst (CameFrom (passed_from ends.receivers.items all.parts all.wires cycle out)
      (length all.wires)) (sym (nothing-at (length all.wires) out))
      (λ sender below. ap (λ (flit : Option Flit).
      option_and_then (λ part. passed part cycle out sender flit)
      (part_at ends.receivers.items all.parts sender)) (empty sender)
      ∙ found-empty (part_at ends.receivers.items all.parts sender) cycle out sender))
      all.wires all.wires
      (all-empty all.wires (λ wire within. empty wire) ∙ none-carried (length all.wires))
      (InjectedTo-wires injected (omega arith))

  taken-are : record { parts = all.parts; channel_states = all.channel_states }
      ≡ taken_of all.words [] cycle
      (record { parts = all.parts; channel_states = all.channel_states })
  taken-are =
      taken-none
      ∙ ap (λ (parts : List Part). in_turn (pulled cycle)
      (record { parts = parts; channel_states = all.channel_states })) driven-none
      ∙ ap (λ (moment : Moment). in_turn (pulled cycle)
      (record moment { parts = interfaces_driven cycle moment.parts })) (enqueued-none all.parts)

  runs : Runs all.words [] cycle all.wires all.wires
      (record { parts = all_seen all.wires all.parts; channel_states = all.channel_states })
      (record {
        parts = all_seen all.wires (flits_landed all.wires all.parts);
        channel_states = all.channel_states;
      })
  runs =
      Runs-landed all.words [] cycle all.wires all.wires all.parts all.parts
      (flits_landed all.wires all.parts) all.channel_states all.channel_states taken-are
      (wires-none ∙ ap (λ (moment : Moment). wires_driven moment.parts (length all.wires) cycle)
      (enqueued-none (all_seen all.wires all.parts))) refl

  -- And the cycle leaves all as it is seen.
  pub Cycle-resting : ComponentsCycle [] cycle
      (record all { parts = all_seen all.wires all.parts })
      (record all { parts = all_seen all.wires all.parts })
  Cycle-resting =
      let latched = interfaces_latched all.wires all.parts in
      subst (λ (parts : List Part). ComponentsCycle [] cycle
      (record all { parts = all_seen all.wires all.parts })
      (record all { parts = all_seen all.wires parts })) (land-none all.wires empty all.parts)
      (Cycle-counted all all.parts runs (counts-none cycle latched all.channel_states idle)
      (notes-none cycle latched all.landings all.channel_states idle)
      (flits-none all.wires empty all.flits))
