-- Stretches of cycles that leave networks as they are.
--
--   brought_over, rested      a network behind a cycle that left its components, and behind later ones
--   ready_channel_states      the channels, once they are ready for a cycle of a stretch
--   IsQuiet      a cycle that leaves a network with empty wires, where those before it do
--   AreStill, IsNextBusy      so many cycles leave a network, and the next cycle that doesn't
-- This project's own.
use Rattle.std.proofs.Common.{◌≡◌, ◌≤◌, ◌<◌, ◌+◌, ◌-◌, ◌++◌, ℕ, zero, suc, false, true, [], All}
use Rattle.std.proofs.Common.{List, Some, fold, map, slice_get}
use Rattle.std.specs.List.{slice_index_or}
use Rattle.aeth_router.specs.declared.part.Part.{Part}
use Rattle.aeth_trace.specs.Channels.{channel_number}
use Rattle.aeth_components.specs.{ChannelStates.is_open, Phases.asked_of, FlitsOnWires.sends_own}
use Rattle.aeth_components.specs.{declared.channel_state.ChannelState.ChannelState}
use Rattle.aeth_schedule.specs.Windows.{IsInWindow}
use Rattle.aeth_stimuli.specs.Loaded.{no_channel_state}
use Rattle.aeth_running.specs.Network.{NetworkState, session_starts_in, offers_in, outside_in}
use Rattle.aeth_running.specs.Network.{played, ready_in, takes_in, taking_with, untils_in}
use Rattle.aeth_running.specs.Still.{IsStill, passed_over}

-- A network behind a cycle that left its components as they were once they were ready for it.
abbrev pub brought_over : NetworkState → NetworkState
brought_over all =
    let untils = untils_in all.stimuli all.time all.untils in
    record all {
      components = ready_in all;
      untils = untils;
      outside = outside_in all.stimuli all.time untils all.outside;
      replaced = all.replaced
          ++ map (λ session_start. slice_index_or all.components.channel_states
          (channel_number session_start.channel) no_channel_state)
          (session_starts_in all.stimuli all.time);
      time = all.time + 1;
    }

-- A network behind so many later cycles that left it.
unfoldable pub rested : ℕ → NetworkState → NetworkState
rested zero all = all
rested (suc cycles) all = passed_over (rested cycles all)

-- The channels, once they are ready for the next cycle, or for one that is so many cycles later, where
-- those before it leave the network: receivers take as the rows of all of these cycles say.
unfoldable pub ready_channel_states : ℕ → NetworkState → List ChannelState
ready_channel_states zero all = (ready_in all).channel_states
ready_channel_states (suc cycles) all =
    fold taking_with (ready_channel_states cycles all)
    (takes_in all.stimuli (all.time + suc cycles))

-- So many cycles leave a network.
abbrev pub AreStill : ℕ → NetworkState → Type 0
AreStill cycles all = (k : ℕ) → k < cycles → IsStill (played k all)

-- The cycle that is so many cycles later leaves a network with empty wires, where those before it do: no
-- word is offered in it, it is in no switch's window, no component sends in it as it stands, and no
-- open channel has a word that its receiver takes.
pub record IsQuiet (all : NetworkState) (later : ℕ) : Type 0 where
  pub unoffered : offers_in all.stimuli (all.time + later) ≡ []
  pub unswitched : All (λ window. IsInWindow window (all.time + later) → ⊥)
      all.stimuli.schedule.windows
  pub mute : (number : ℕ) (part : Part) → slice_get all.components.parts number ≡ Some part
      → sends_own (all.time + later) part ≡ false
  pub unasked : (number : ℕ) (channel_state : ChannelState)
      → slice_get (ready_channel_states later all) number ≡ Some channel_state
      → is_open channel_state (all.time + later) ≡ true → asked_of channel_state ≡ 0

-- The next cycle that doesn't leave a network, or the end of its run.
pub record IsNextBusy (all : NetworkState) (t : ℕ) : Type 0 where
  pub from : all.time ≤ t
  pub to : t ≤ all.log.cycles
  pub still : AreStill (t - all.time) all
  pub busy : t < all.log.cycles → IsStill (played (t - all.time) all) → ⊥
