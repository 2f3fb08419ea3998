-- For each queue of an interface the channel of which words may land there, if its receiver is still at this
-- interface. The components don't know that no two channels share a queue. Where two did, each that receives there and
-- has words on their way would be counted.
--
--   home_at, home_count        the place of a queue
--   AreHomes                   what is noted of channels
--
-- This project's own.
use Rattle.std.proofs.Common.{◌≡◌, ◌<◌, ◌+◌, ◌*◌, ◌%◌, ◌^◌, ℕ, true, List, Some, length, slice_get}
use Rattle.aeth_chip.specs.Limits.{max_nis}
use Rattle.aeth_ni.specs.Limits.{queues_of_interface}
use Rattle.aeth_components.specs.declared.homes.Homes.{Homes}
use Rattle.aeth_components.specs.declared.channel_state.ChannelState.{ChannelState}

-- There are so many places: one for each queue of each interface that a chip may have.
abbrev pub home_count : ℕ
home_count = max_nis * queues_of_interface

-- The place of a queue of an interface: each of those has its own.
abbrev pub home_at : ℕ → ℕ → ℕ
home_at interface queue =
    (interface % max_nis) * queues_of_interface + queue % queues_of_interface

-- Where no two channels came to one place, each channel of which words are still to land is noted at
-- its own.
pub record AreHomes (homes : Homes) (channel_states : List ChannelState) : Type 0 where
  pub size : length homes.numbers.items ≡ home_count
  pub few : length channel_states < 2 ^ 63
  pub at : homes.is_apart ≡ true → (number : ℕ) (channel_state : ChannelState)
      → slice_get channel_states number ≡ Some channel_state
      → channel_state.landed < channel_state.accepted
      → slice_get homes.numbers.items
      (home_at channel_state.receiver.ni.0 channel_state.receiver.queue) ≡ Some number
