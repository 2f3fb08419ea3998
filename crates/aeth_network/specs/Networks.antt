-- What holds of every network.
--
--   network_of      a network by its parts
--   IsNetwork      what holds of it
-- This project's own.
use Rattle.std.proofs.Common.{◌≡◌, ◌≤◌, ◌<◌, ◌*◌, ◌^◌, ℕ, All, drop, length}
use Rattle.std.specs.List.Sorted.{IsNonDecreasingBy}
use Rattle.aeth_base.specs.Limits.{max_cycles}
use Rattle.aeth_app.specs.Limits.{max_connections}
use Rattle.aeth_report.specs.Log.{LogData}
use Rattle.aeth_components.specs.Components.{IsComponents, wirings_of}
use Rattle.aeth_components.specs.ChannelStates.{IsChannelState}
use Rattle.aeth_running.specs.{Network.NetworkState, Routing.Routing, Routing.later_rows}
use Rattle.aeth_stimuli.specs.Stimuli.{AreStimuli, Stimuli}
use Rattle.aeth_network.specs.{Behind.passed, Fits.AreFit, Fits.HaveCounts}
use Rattle.aeth_network.specs.{declared.state.State.State}

-- A network by what it is given, by what its routers send on, its state, its log of which nothing has
-- landed, and the cycles done.
abbrev pub network_of : Stimuli → Routing → State → LogData → ℕ → NetworkState
network_of stimuli routing state log time = record {
  stimuli = stimuli;
  routing = routing;
  components = state.components;
  untils = state.untils.items;
  outside = state.outside.items;
  replaced = state.replaced.items;
  log = log;
  time = time;
}

-- What holds of every network that has room for so many replaced channels.
pub record IsNetwork (capacity : ℕ) (all : NetworkState) : Type 0 where
  pub stimuli : AreStimuli (length all.components.channel_states) (length all.components.words)
      (wirings_of all.components) all.stimuli
  pub enterings : IsNonDecreasingBy (λ entering. entering.cycle) (later_rows all.routing)
  pub components : IsComponents all.components
  pub some_parts : 0 < length all.components.parts
  pub untils : length all.untils ≡ length all.components.channel_states
  pub outside : length all.outside ≡ length all.components.channel_states
  pub channels : length all.log.channels ≡ length all.components.channel_states
  pub flits : length all.log.flits ≡ length all.components.flits
  pub fit : AreFit (length all.components.words) (length all.components.parts) all.untils
      (drop (passed (λ one. one.cycle) all.time all.stimuli.offers) all.stimuli.offers)
      all.components.channel_states
  pub counts : HaveCounts
      (drop (passed (λ one. one.cycle) all.time all.stimuli.offers) all.stimuli.offers) all.outside
  pub fresh : All (λ one. one.channel_state.accepted ≡ 0) all.stimuli.schedule.session_starts
  pub replaced : All (IsChannelState (length all.components.words) (length all.components.parts))
      all.replaced
  pub gone : length all.replaced
      ≡ passed (λ one. one.channel_state.go) all.time all.stimuli.schedule.session_starts
  pub enough : length all.stimuli.schedule.session_starts ≤ capacity
  pub few_session_starts : length all.stimuli.schedule.session_starts < 2 ^ 32
  pub few_channels : length all.components.channel_states ≤ 2 * max_connections
  pub few_words : length all.components.words < 2 ^ 32
  pub few_parts : length all.components.parts < 2 ^ 32
  pub cycles : all.log.cycles ≤ max_cycles
