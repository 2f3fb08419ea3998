-- What holds of components and channels in each phase of a cycle.
use Rattle.std.proofs.Common.{ℕ, ◌≡◌, refl, sym, ◌∙◌, ap, length, map, List, Option, arith, fold}
use Rattle.std.proofs.Common.{zero, suc, [], ◌∷◌, Some, slice_get, slice_set}
use Rattle.std.proofs.lemmas.{Option.same_Some, List.Elements.All-map, List.length-map}
use Rattle.std.specs.List.{All}
use Rattle.aeth_clocked.specs.declared.flit.Flit.{Flit}
use Rattle.aeth_router.specs.declared.part.Part.{Part}
use Rattle.aeth_components.specs.{declared.event.Event.Event}
use Rattle.aeth_components.specs.{declared.channel_state.ChannelState.ChannelState}
use Rattle.aeth_components.specs.{Changes.switched, Components.ComponentsState}
use Rattle.aeth_components.specs.{Components.ComponentsCycle, Components.IsComponents}
use Rattle.aeth_components.specs.{Components.Runs, Components.components_of, Components.wirings_of}
use Rattle.aeth_components.specs.{Components.moment_of, Components.ready_of, Counting.counted}
use Rattle.aeth_components.specs.{Counting.flits_counted, Counting.noted, Wirings.wiring_of}
use Rattle.aeth_components.specs.{ChannelStates.IsChannelState, Phases.Moment}
use Rattle.aeth_components.proofs.{CountingLemmas.IsChannelState-counted}
use Rattle.aeth_components.proofs.{CountingLemmas.length-flits_counted, CountingLemmas.length-notes}
use Rattle.aeth_components.proofs.{WiringLemmas.length-wires_driven, PartLemmas.wirings-switched}

-- A run and what is counted behind it are a cycle.
module _ (events : List Event) (cycle : ℕ) (old : ComponentsState) (wires : List (Option Flit))
    (latched : Moment) (channel_states : List ChannelState) (landings flits : List ℕ)
    (runs : Runs old.words events cycle old.wires wires (moment_of old) latched)
    (counts : channel_states ≡ map (counted cycle latched.parts) latched.channel_states)
    (notes : landings ≡ fold (noted cycle latched.parts) old.landings latched.channel_states)
    (tallies : flits ≡ flits_counted wires old.flits) where
  pub Cycle-from : ComponentsCycle events cycle old
      (components_of latched.parts wires channel_states old.words landings flits)
  Cycle-from =
      let is = ap (λ (moment : Moment). moment.parts) runs.moment in
      record {
        wires = runs.wires;
        parts = is;
        channel_states = counts
            ∙ ap (λ (moment : Moment). map (counted cycle moment.parts) moment.channel_states)
            runs.moment;
        words = refl;
        landings = notes ∙ ap (λ (moment : Moment).
            fold (noted cycle moment.parts) old.landings moment.channel_states) runs.moment;
        flits = tallies;
        wirings = runs.wirings;
        size = sym (length-map latched.parts wiring_of) ∙ ap length runs.wirings
            ∙ length-map old.parts wiring_of;
        count = ap length counts ∙ length-map latched.channel_states (counted cycle latched.parts)
            ∙ runs.count;
      }

  -- What holds of components still holds.
  pub IsComponents-from : IsComponents old
      → All (IsChannelState (length old.words) (length latched.parts)) latched.channel_states
      → IsComponents (components_of latched.parts wires channel_states old.words landings flits)
  IsComponents-from before sound =
      let wire_count = ap length runs.wires ∙ length-wires_driven
      (ready_of old.words events cycle (moment_of old)).parts (length old.wires) cycle in
      let flit_count = ap length tallies ∙ length-flits_counted wires old.flits in
      let few = before.flits in
      let fewer = before.few in
      record {
        wired = rw (wire_count, runs.wirings) before.wired;
        channel_states =
            rw counts (All-map (IsChannelState (length old.words) (length latched.parts))
            (counted cycle latched.parts) latched.channel_states
            (λ place default within. IsChannelState-counted (length old.words) cycle
            (length latched.parts) latched.parts _ (sound place default within)));
        landings = ap length notes
            ∙ length-notes cycle latched.parts latched.channel_states old.landings
            ∙ before.landings;
        flits = omega arith;
        few = omega arith;
      }

-- So it does of others with the same wirings.
pub IsComponents-wired_for : (others : List Part) (all : ComponentsState)
    → map wiring_of others ≡ map wiring_of all.parts → IsComponents all
    → IsComponents (record all { parts = others })
IsComponents-wired_for others all wired_for before =
    let size = length-map all.parts wiring_of in
    let size_now = length-map others wiring_of in
    let same = ap length wired_for in
    let count : length all.parts ≡ length others = omega arith in
    record {
      wired = rw wired_for before.wired;
      channel_states = rw (← count) before.channel_states;
      landings = before.landings;
      flits = before.flits;
      few = before.few;
    }

-- Events keep it too.
pub IsComponents-switched : (events : List Event) (all : ComponentsState) → IsComponents all
    → IsComponents (record all { parts = switched events all.parts })
IsComponents-switched events all =
    IsComponents-wired_for (switched events all.parts) all (wirings-switched events all.parts)

-- A cycle without events of the components once some events are done is one with these.
pub Cycle-switched : (events : List Event) (cycle : ℕ) (old new : ComponentsState)
    → ComponentsCycle [] cycle (record old { parts = switched events old.parts }) new
    → ComponentsCycle events cycle old new
Cycle-switched events cycle old new did =
    let wirings = did.wirings ∙ wirings-switched events old.parts in
    record {
      wires = did.wires;
      parts = did.parts;
      channel_states = did.channel_states;
      words = did.words;
      landings = did.landings;
      flits = did.flits;
      wirings = wirings;
      size = sym (length-map new.parts wiring_of) ∙ ap length wirings
          ∙ length-map old.parts wiring_of;
      count = did.count;
    }

-- A component in place of one of which the same is seen.
pub views-slice_set : {X : Type 0} (view : Part → X) (parts : List Part) (number : ℕ) (part : Part)
    → slice_get (map view parts) number ≡ Some (view part)
    → map view (slice_set parts number part) ≡ map view parts
views-slice_set view [] number part at = absurd cc
views-slice_set {X = X} view (first ∷ parts) zero part at =
    ap (λ (seen : X). seen ∷ map view parts) (sym (same_Some (view first) (view part) at))
views-slice_set {X = X} view (first ∷ parts) (suc number) part at =
    ap (λ (rest : List X). view first ∷ rest) (views-slice_set view parts number part at)

pub IsComponents-replaced : (number : ℕ) (part : Part) (all : ComponentsState)
    → slice_get (wirings_of all) number ≡ Some (wiring_of part) → IsComponents all
    → IsComponents (record all { parts = slice_set all.parts number part })
IsComponents-replaced number part all at =
    IsComponents-wired_for (slice_set all.parts number part) all
    (views-slice_set wiring_of all.parts number part at)
