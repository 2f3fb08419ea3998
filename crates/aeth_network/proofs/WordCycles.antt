-- Cycles that bring nothing but words and events.
use Rattle.std.proofs.Common.{◌≡◌, ◌+◌, ◌==◌, ◌++◌, ◌∙◌, ℕ, List, [], ap, filter, fold, length, map}
use Rattle.std.proofs.Common.{subst, sym, slice_range, vec_capacity, append-nil}
use Rattle.std.specs.List.{slice_index_or}
use Rattle.aeth_trace.specs.Channels.{channel_number}
use Rattle.aeth_components.specs.Components.{ComponentsState, ComponentsCycle}
use Rattle.aeth_components.specs.declared.channel_state.ChannelState.{ChannelState}
use Rattle.aeth_schedule.specs.declared.session_start.SessionStart.{SessionStart}
use Rattle.aeth_stimuli.specs.{Loaded.no_channel_state, Stimuli.Offer, Stimuli.Take}
use Rattle.aeth_stimuli.specs.{Events.events_in}
use Rattle.aeth_running.specs.Network.{NetworkState, accepted_with, gone_with, offers_in}
use Rattle.aeth_running.specs.Network.{outside_with, ready_in, stepped, taking_with, until_with}
use Rattle.aeth_running.specs.Routing.{Entering, entered_with}
use Rattle.aeth_network.specs.{Behind.IsBehind, Brought.IsCalm, Fits.AreFit, Networks.IsNetwork}
use Rattle.aeth_network.specs.{declared.network.RoutedNetwork.TheInside.Inside}
use Rattle.aeth_network.specs.{declared.state.State.State}
use Rattle.aeth_network.proofs.{Cycling.fit-started, SeenNetworks.seen, SeenNetworks.seen_next}
use Rattle.aeth_network.proofs.{Stepping.behind-is}

module _ (all : Inside) (is : IsNetwork (vec_capacity all.state.replaced) (seen all))
    (calm : IsCalm (seen all).stimuli (seen all).routing (seen all).time) where
  abbrev old : NetworkState
  old = seen all

  -- The words of the cycle are those between its places.
  pub words-are : (first last : ℕ) (given rows : List Offer) → given ≡ all.given.offers.items
      → rows ≡ all.given.offers.items → IsBehind (λ one. one.cycle) all.time given first last
      → slice_range rows first last ≡ offers_in old.stimuli old.time
  words-are first last given rows given_is rows_are behind =
      ap (λ (list : List Offer). slice_range list first last) (rows_are ∙ sym given_is)
      ∙ behind.rows_are ∙ ap (filter (λ (one : Offer). one.cycle == all.time)) given_is

  -- They have room in the channels as they stand.
  pub fit-words : AreFit (length old.components.words) (length old.components.parts) old.untils
      (offers_in old.stimuli old.time) old.components.channel_states
  fit-words =
      subst (λ (session_starts : List SessionStart). AreFit (length old.components.words)
      (length old.components.parts) (fold until_with old.untils session_starts)
      (offers_in old.stimuli old.time)
      (fold gone_with old.components.channel_states session_starts)) calm.ungone
      (fit-started all is)

  -- The components once these rows have come beside the words.
  abbrev ready_with : List SessionStart → List Take → List Entering → ComponentsState
  ready_with session_starts takes enterings = record old.components {
    parts = fold entered_with old.components.parts enterings;
    channel_states =
        fold taking_with (fold (accepted_with old.time (fold until_with old.untils session_starts))
        (fold gone_with old.components.channel_states session_starts)
        (offers_in old.stimuli old.time)) takes;
  }

  -- A network whose components are these behind a cycle in which these sessions go.
  abbrev behind_with : ComponentsState → List SessionStart → NetworkState
  behind_with new session_starts = record old {
    components = new;
    untils = fold until_with old.untils session_starts;
    outside = fold (outside_with old.time (fold until_with old.untils session_starts)) old.outside
        (offers_in old.stimuli old.time);
    replaced = old.replaced
        ++ map (λ one. slice_index_or old.components.channel_states (channel_number one.channel)
        no_channel_state)
        session_starts;
    time = old.time + 1;
  }

  -- Once the words are offered, and the components did a cycle with its events, the cycle is done.
  pub calm-stepped : (offered new : ComponentsState) (next : State)
      → offered ≡ record old.components {
        channel_states = fold (accepted_with old.time old.untils) old.components.channel_states
            (offers_in old.stimuli old.time);
      }
      → ComponentsCycle (events_in old.stimuli old.time) old.time offered new
      → next.components ≡ new
      → next.untils.items ≡ old.untils → next.replaced.items ≡ old.replaced
      → next.outside.items
      ≡ fold (outside_with old.time old.untils) old.outside (offers_in old.stimuli old.time)
      → seen_next all next ≡ stepped old
  calm-stepped offered new next offers did components untils replaced outside =
      let ready : offered ≡ ready_in old =
      offers ∙ (λ i. ready_with (sym calm.ungone i) (sym calm.untaken i)
      (sym calm.unentered i)) in
      let done : ComponentsCycle (events_in old.stimuli old.time) old.time (ready_in old) new =
      subst (λ (one : ComponentsState).
      ComponentsCycle (events_in old.stimuli old.time) old.time one new) ready did in
      rw (components, untils, replaced, outside)
      (ap (λ (list : List ChannelState). record (behind_with new []) { replaced = list })
      (sym (append-nil old.replaced))
      ∙ ap (behind_with new) (sym calm.ungone)
      ∙ behind-is (vec_capacity all.state.replaced) old is new done)
