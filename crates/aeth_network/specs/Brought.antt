-- What a cycle brings to the state of a network.
--
--   CanBring      the state has room for what comes
--   IsBrought      the state with what has come
--   IsCalm, BringsWords      nothing but words and events comes, and nothing but words
-- This project's own.
use Rattle.std.proofs.Common.{◌≡◌, ◌≤◌, ◌<◌, ◌*◌, ◌+◌, ◌++◌, ◌^◌, ℕ, [], All, fold, length, map}
use Rattle.std.proofs.Common.{vec_capacity}
use Rattle.std.specs.List.{slice_index_or}
use Rattle.aeth_app.specs.Limits.{max_connections}
use Rattle.aeth_trace.specs.Channels.{channel_number}
use Rattle.aeth_components.specs.ChannelStates.{IsChannelState}
use Rattle.aeth_stimuli.specs.{Events.events_in, Loaded.no_channel_state, Stimuli.Stimuli}
use Rattle.aeth_running.specs.Network.{NetworkState, accepted_with, gone_with, session_starts_in}
use Rattle.aeth_running.specs.Network.{outside_with, takes_in, taking_with, until_with}
use Rattle.aeth_running.specs.Routing.{Routing, enterings_in}
use Rattle.aeth_network.specs.Fits.{AreFit, HaveCounts}
use Rattle.aeth_network.specs.declared.{given.CycleRows.CycleRows, state.State.State}

-- The sessions, words and receivers' rows of a cycle are for channels that there are, which have room
-- for the words that they accept; and there is room to note how channels stand whose sessions go.
pub record CanBring (state : State) (rows : CycleRows) (time : ℕ) : Type 0 where
  pub few_channels : length state.components.channel_states ≤ 2 * max_connections
  pub few_words : length state.components.words < 2 ^ 32
  pub untils : length state.untils.items ≡ length state.components.channel_states
  pub outside : length state.outside.items ≡ length state.components.channel_states
  pub room : length state.replaced.items + length rows.session_starts ≤ vec_capacity state.replaced
  pub session_starts : All
      (λ one. channel_number one.channel < length state.components.channel_states)
      rows.session_starts
  pub channel_states : All
      (λ one. IsChannelState (length state.components.words) (length state.components.parts)
      one.channel_state) rows.session_starts
  pub offers : All (λ one. one.number < length state.components.channel_states) rows.offers.now
  pub now : All (λ one. one.cycle ≡ time) rows.offers.now
  pub fit : AreFit (length state.components.words) (length state.components.parts)
      (fold until_with state.untils.items rows.session_starts) rows.offers.now
      (fold gone_with state.components.channel_states rows.session_starts)
  pub counts : HaveCounts rows.offers.now state.outside.items
  pub takes : All (λ one. one.number < length state.components.channel_states) rows.takes.now

-- The sessions of a cycle have gone, its words are accepted or outside of all sessions, its receivers
-- take as their rows say, and it is noted how channels stood whose sessions went.
pub record IsBrought (rows : CycleRows) (time : ℕ) (old new : State) : Type 0 where
  pub components : new.components ≡ record old.components {
    channel_states = fold taking_with (fold (accepted_with time new.untils.items)
        (fold gone_with old.components.channel_states rows.session_starts) rows.offers.now)
        rows.takes.now;
  }
  pub untils : new.untils.items ≡ fold until_with old.untils.items rows.session_starts
  pub outside : new.outside.items
      ≡ fold (outside_with time new.untils.items) old.outside.items rows.offers.now
  pub replaced : new.replaced.items ≡ old.replaced.items
      ++ map (λ one. slice_index_or old.components.channel_states (channel_number one.channel)
      no_channel_state)
      rows.session_starts
  pub capacity : vec_capacity old.replaced ≤ vec_capacity new.replaced

-- A cycle brings nothing but words and events: no session goes, no row of a receiver comes, and no rows
-- enter tables.
pub record IsCalm (all : Stimuli) (routing : Routing) (t : ℕ) : Type 0 where
  pub ungone : session_starts_in all t ≡ []
  pub untaken : takes_in all t ≡ []
  pub unentered : enterings_in routing t ≡ []

-- A network's next cycle brings nothing but words.
pub record BringsWords (all : NetworkState) : Type 0 where
  pub calm : IsCalm all.stimuli all.routing all.time
  pub eventless : events_in all.stimuli all.time ≡ []
