-- Networks that the next cycle leaves as they are.
--
--   IsStill      the next cycle leaves a network
--   passed_over      a network behind a later cycle that left it
--
-- A cycle of a run is idle by its private servers, words and switches; a network is still by its wires and by what is
-- done, offered or taken. Cycle 0 is special: the first row of switches is no switch, yet its sessions go then. So
-- whoever passes over cycle 0 lets these go first. Rows of receivers count in no cycle, and hold from theirs on.
--
-- This project's own.
use Rattle.std.proofs.Common.{◌≡◌, ◌<◌, ◌+◌, ℕ, true, [], None, Some, All, fold, slice_get}
use Rattle.aeth_clocked.specs.Wires.{flit_on}
use Rattle.aeth_components.specs.{ChannelStates.is_open, Phases.asked_of}
use Rattle.aeth_components.specs.{declared.channel_state.ChannelState.ChannelState}
use Rattle.aeth_schedule.specs.Windows.{IsInWindow}
use Rattle.aeth_stimuli.specs.Events.{events_in}
use Rattle.aeth_running.specs.Network.{NetworkState, session_starts_in, offers_in, ready_in}
use Rattle.aeth_running.specs.Network.{stepped, takes_in, taking_with}

-- The next cycle leaves a network as it is, but for sessions that go in cycle 0 and for how receivers
-- take: no wire has a flit, before it and behind it, no word is offered, no later session goes, no event
-- is done, no open channel has a word that its receiver takes, and the cycle is in no switch's window.
pub record IsStill (all : NetworkState) : Type 0 where
  pub empty : (l : ℕ) → flit_on all.components.wires l ≡ None
  pub silent : (l : ℕ) → flit_on (stepped all).components.wires l ≡ None
  pub unoffered : offers_in all.stimuli all.time ≡ []
  pub ungone : 0 < all.time → session_starts_in all.stimuli all.time ≡ []
  pub eventless : events_in all.stimuli all.time ≡ []
  pub unasked : (number : ℕ) (channel_state : ChannelState)
      → slice_get (ready_in all).channel_states number ≡ Some channel_state
      → is_open channel_state all.time ≡ true → asked_of channel_state ≡ 0
  pub unswitched : All (λ window. IsInWindow window all.time → ⊥) all.stimuli.schedule.windows

-- A network behind a later cycle that left it: its receivers take as the rows of the cycle say, and one
-- cycle more is done.
abbrev pub passed_over : NetworkState → NetworkState
passed_over all = record all {
  components = record all.components {
    channel_states = fold taking_with all.components.channel_states (takes_in all.stimuli all.time);
  };
  time = all.time + 1;
}
