-- A run of components that are seen with what the wires had, and what is counted behind it, are a cycle.
use Rattle.std.proofs.Common.{ℕ, ◌≡◌, ◌∙◌, List, Option, fold, length, map, sym}
use Rattle.std.proofs.lemmas.List.{length-map}
use Rattle.std.specs.List.{All}
use Rattle.aeth_clocked.specs.{Wires.flit_on, declared.flit.Flit.Flit}
use Rattle.aeth_router.specs.declared.part.Part.{Part}
use Rattle.aeth_components.proofs.{CycleLemmas.Cycle-from, CycleLemmas.IsComponents-wired_for}
use Rattle.aeth_components.proofs.{CycleLemmas.IsComponents-from, SeenCycle.counted-landed}
use Rattle.aeth_components.proofs.{SeenCycle.noted-landed, SeenLemmas.wirings-seen}
use Rattle.aeth_components.specs.Components.{ComponentsState, ComponentsCycle, IsComponents, Runs}
use Rattle.aeth_components.specs.Components.{components_of}
use Rattle.aeth_components.specs.Changes.{on_interface}
use Rattle.aeth_components.specs.Counting.{counted, flits_counted, noted}
use Rattle.aeth_components.specs.ChannelStates.{IsChannelState}
use Rattle.aeth_components.specs.Seen.{all_seen, flits_landed, interfaces_latched, landed, seen}
use Rattle.aeth_components.specs.declared.event.Event.{Event}
use Rattle.aeth_components.specs.declared.channel_state.ChannelState.{ChannelState}

-- The components as they stand are `old`, and `parts` where flits land.
module _ {events : List Event} {cycle : ℕ} (old : ComponentsState) {wires : List (Option Flit)}
    (parts : List Part) {ran channel_states : List ChannelState} {landings flits : List ℕ}
    (runs : Runs old.words events cycle old.wires wires
    (record { parts = all_seen old.wires old.parts; channel_states = old.channel_states })
    (record { parts = all_seen wires (flits_landed wires parts); channel_states = ran }))
    (counts : channel_states ≡ map (counted cycle (interfaces_latched wires parts)) ran)
    (notes : landings ≡ fold (noted cycle (interfaces_latched wires parts)) old.landings ran)
    (tallies : flits ≡ flits_counted wires old.flits) where
  -- What is seen of them makes a cycle.
  pub Cycle-counted : ComponentsCycle events cycle
      (record old { parts = all_seen old.wires old.parts })
      (components_of (all_seen wires (flits_landed wires parts)) wires channel_states old.words
      landings flits)
  Cycle-counted =
      Cycle-from events cycle (record old { parts = all_seen old.wires old.parts }) wires
      (record { parts = all_seen wires (flits_landed wires parts); channel_states = ran })
      channel_states landings flits runs
      (counts ∙ counted-landed wires cycle parts ran)
      (notes ∙ noted-landed wires cycle parts ran old.landings) tallies

  -- What holds of them still holds.
  pub IsComponents-counted : IsComponents old
      → All (IsChannelState (length old.words) (length parts)) ran
      → IsComponents
      (components_of (flits_landed wires parts) wires channel_states old.words landings flits)
  IsComponents-counted before sound =
      let now = flits_landed wires parts in
      IsComponents-wired_for now
      (components_of (all_seen wires now) wires channel_states old.words landings flits)
      (sym (wirings-seen wires now))
      (IsComponents-from events cycle (record old { parts = all_seen old.wires old.parts }) wires
      (record { parts = all_seen wires now; channel_states = ran }) channel_states landings flits
      runs
      (counts ∙ counted-landed wires cycle parts ran)
      (notes ∙ noted-landed wires cycle parts ran old.landings) tallies
      (IsComponents-wired_for (all_seen old.wires old.parts) old
      (wirings-seen old.wires old.parts) before)
      (rw (
        length-map now (seen wires),
        length-map parts
            (on_interface (λ ni. landed (flit_on wires ni.entering.0) ni)),
      ) sound))
