-- What a cycle of components keeps of a channel: all but how many words were enqueued, have landed
-- and were taken. And what holds of all components still does.
use Rattle.std.proofs.Common.{◌≡◌, ◌∙◌, ℕ, List, Option, length, map, refl, sym, ap, subst, arith}
use Rattle.std.proofs.lemmas.List.{length-map, Elements.All-map}
use Rattle.std.specs.List.{All, range_with_len}
use Rattle.aeth_clocked.specs.declared.flit.Flit.{Flit}
use Rattle.aeth_components.proofs.CountingLemmas.{IsChannelState-counted, length-flits_counted}
use Rattle.aeth_components.proofs.CountingLemmas.{length-notes}
use Rattle.aeth_components.proofs.WiringLemmas.{wirings-absorb, wirings-after, length-wires_driven}
use Rattle.aeth_components.proofs.KeptLemmas.{IsUncounted, kept-counted, kept-latched}
use Rattle.aeth_components.proofs.PartLemmas.{wirings-switched}
use Rattle.aeth_components.proofs.TurnLemmas.{All-turns, IsChannelState-pulled}
use Rattle.aeth_components.proofs.TurnLemmas.{IsChannelState-refilled, wirings-pulled}
use Rattle.aeth_components.proofs.TurnLemmas.{wirings-refilled, wirings-turns}
use Rattle.aeth_components.specs.Components.{ComponentsState, ComponentsCycle, IsComponents}
use Rattle.aeth_components.specs.Components.{driven_from, wirings_of, latched_of, moment_of}
use Rattle.aeth_components.specs.Components.{ready_of, switched_from}
use Rattle.aeth_components.specs.Counting.{counted}
use Rattle.aeth_components.specs.Wirings.{Wiring, IsWired, wiring_of}
use Rattle.aeth_components.specs.ChannelStates.{IsChannelState}
use Rattle.aeth_components.specs.Phases.{Moment, in_turn, pulled, refilled}
use Rattle.aeth_components.specs.declared.event.Event.{Event}
use Rattle.aeth_components.specs.declared.channel_state.ChannelState.{ChannelState}
use Rattle.aeth_running.specs.Network.{state_behind}

-- A channel but for these counts.
abbrev pub kept_of : ChannelState → ChannelState
kept_of channel_state = record channel_state { enqueued = 0; landed = 0; taken = 0 }

-- It tells none of them.
uncounted : IsUncounted kept_of
uncounted = λ channel_state enqueued landed taken. refl

module _ (words : List ℕ) (events : List Event) (t : ℕ) (wires : List (Option Flit))
    (moment : Moment) where
  abbrev drove : Moment
  drove = driven_from t (ready_of words events t moment)

  wirings-latched : map wiring_of (latched_of words events t wires moment).parts
      ≡ map wiring_of moment.parts
  wirings-latched =
      wirings-absorb (in_turn (pulled t) drove).parts wires
      ∙ wirings-turns (pulled t) (wirings-pulled t) (range_with_len 0 (length drove.channel_states))
      drove
      ∙ wirings-after (ready_of words events t moment).parts t
      ∙ wirings-turns (refilled words t) (wirings-refilled words t)
      (range_with_len 0 (length moment.channel_states)) (switched_from events moment)
      ∙ wirings-switched events moment.parts

  -- Sound channels are so in each phase.
  channel_states-latched : (count : ℕ)
      → All (IsChannelState (length words) count) moment.channel_states
      → All (IsChannelState (length words) count)
      (latched_of words events t wires moment).channel_states
  channel_states-latched count all =
      All-turns (pulled t) (IsChannelState (length words) count)
      (IsChannelState-pulled (length words) t count)
      (range_with_len 0 (length drove.channel_states)) drove
      (All-turns (refilled words t) (IsChannelState (length words) count)
      (IsChannelState-refilled words t count)
      (range_with_len 0 (length moment.channel_states)) (switched_from events moment) all)

module _ (events : List Event) (t : ℕ) (old : ComponentsState) where
  abbrev new : ComponentsState
  new = state_behind events t old

  abbrev latched : Moment
  latched = latched_of old.words events t new.wires (moment_of old)

  -- A cycle's channels, but for their counts.
  pub channel_states-kept : map kept_of (state_behind events t old).channel_states
      ≡ map kept_of old.channel_states
  channel_states-kept =
      kept-counted kept_of uncounted t latched.parts latched.channel_states
      ∙ kept-latched kept_of uncounted old.words events t new.wires (moment_of old)

  pub wirings-kept : wirings_of (state_behind events t old) ≡ wirings_of old
  wirings-kept = wirings-latched old.words events t new.wires (moment_of old)

  pub length-kept : length (state_behind events t old).channel_states ≡ length old.channel_states
  length-kept =
      sym (length-map new.channel_states kept_of) ∙ ap length channel_states-kept
      ∙ length-map old.channel_states kept_of

  pub wires-kept : length (state_behind events t old).wires ≡ length old.wires
  wires-kept =
      length-wires_driven (ready_of old.words events t (moment_of old)).parts (length old.wires) t

  pub flits-kept : length (state_behind events t old).flits ≡ length old.flits
  flits-kept = length-flits_counted new.wires old.flits

  parts-kept : length (state_behind events t old).parts ≡ length old.parts
  parts-kept = sym (length-map new.parts wiring_of) ∙ ap length wirings-kept
      ∙ length-map old.parts wiring_of

  -- So it is a cycle of the components.
  pub cycle-behind : ComponentsCycle events t old (state_behind events t old)
  cycle-behind = record {
    wires = refl;
    parts = refl;
    channel_states = refl;
    words = refl;
    landings = refl;
    flits = refl;
    wirings = wirings-kept;
    size = parts-kept;
    count = length-kept;
  }

  -- And what holds of components still holds.
  pub components-kept : IsComponents old → IsComponents (state_behind events t old)
  components-kept before =
      let count = length old.parts in
      let words = length old.words in
      let sound = channel_states-latched old.words events t new.wires (moment_of old) count
      before.channel_states in
      let few = before.flits in
      let fewer = before.few in
      let size = flits-kept in
      let wires = wires-kept in
      record {
        wired = subst (λ (wirings : List Wiring). IsWired wirings (length new.wires))
            (sym wirings-kept)
            (subst (IsWired (wirings_of old)) (sym wires-kept) before.wired);
        channel_states =
            subst (λ n. All (IsChannelState words n) new.channel_states) (sym parts-kept)
            (All-map (IsChannelState words count) (counted t latched.parts) latched.channel_states
            (λ place default within. IsChannelState-counted words t count latched.parts _
            (sound place default within)));
        landings = length-notes t latched.parts latched.channel_states old.landings
            ∙ before.landings;
        flits = omega (arith, few, size, wires);
        few = omega (arith, fewer, size);
      }
