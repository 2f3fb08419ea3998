-- What is counted behind a cycle.
--
--   brings, counted            the words that have landed of a channel's session
--   written_over, noted        the cycle in which they landed
--   counted_among, noted_among the same of the channels at some interfaces alone
--   flits_counted              the flits that links have carried
--
-- This project's own.
use Rattle.std.proofs.Common.{ℕ, zero, suc, ◌+◌, ◌-◌, min, Bool, if◌then◌else◌, List, [], ◌∷◌}
use Rattle.std.proofs.Common.{slice_get, slice_set, Option, Some, None}
use Rattle.std.specs.Option.{option_map_or}
use Rattle.aeth_clocked.specs.declared.flit.Flit.{Flit}
use Rattle.aeth_router.specs.declared.part.Part.{Part}
use Rattle.aeth_components.specs.{declared.channel_state.ChannelEnd.ChannelEnd}
use Rattle.aeth_components.specs.{declared.channel_state.ChannelState.ChannelState}
use Rattle.aeth_components.specs.{ChannelStates.is_open, Queues.brought_by}
use Rattle.aeth_ni.specs.Queue.{capped}

-- The words that the last flit brought to an end of a channel.
abbrev pub brought_at : ChannelEnd → List Part → ℕ
brought_at end parts = option_map_or (brought_by end.queue) (slice_get parts end.ni.0) 0

-- How many words have landed of a session in this cycle: no more than were enqueued.
abbrev pub brings : List Part → ChannelState → ℕ
brings parts channel_state =
    min (brought_at channel_state.receiver parts) (channel_state.enqueued - channel_state.landed)

-- A session once the components have latched.
abbrev pub counted : ℕ → List Part → ChannelState → ChannelState
counted cycle parts channel_state =
    if is_open channel_state cycle then
    record channel_state { landed = channel_state.landed + brings parts channel_state } else
    channel_state

-- A number is written at so many places, from a place on.
abbrev pub written_over : ℕ → ℕ → ℕ → List ℕ → List ℕ
written_over zero from value list = list
written_over (suc count) from value list =
    slice_set (written_over count from value list) (from + count) value

-- What was latched in a cycle has landed in the next, which is noted for each word of a session
-- that has.
abbrev pub noted : ℕ → List Part → List ℕ → ChannelState → List ℕ
noted cycle parts landings channel_state =
    if is_open channel_state cycle
    then written_over (brings parts channel_state) (channel_state.first + channel_state.landed)
    (cycle + 1) landings
    else landings

-- The same where the session's receiver is at one of some interfaces, and else nothing.
abbrev pub counted_among : (ℕ → Bool) → ℕ → List Part → ChannelState → ChannelState
counted_among among cycle parts channel_state =
    if among channel_state.receiver.ni.0 then counted cycle parts channel_state else channel_state

-- So is the cycle noted of the words of such a session alone.
abbrev pub noted_among : (ℕ → Bool) → ℕ → List Part → List ℕ → ChannelState → List ℕ
noted_among among cycle parts landings channel_state =
    if among channel_state.receiver.ni.0 then noted cycle parts landings channel_state else landings

-- One flit more, where a wire carries one.
abbrev pub with_flit : Option Flit → ℕ → ℕ
with_flit None count = count
with_flit (Some flit) count = capped (count + 1)

-- The flits of each link, once these wires have carried theirs.
abbrev pub flits_counted : List (Option Flit) → List ℕ → List ℕ
flits_counted [] counts = counts
flits_counted (wire ∷ wires) [] = []
flits_counted (wire ∷ wires) (count ∷ counts) = with_flit wire count ∷ flits_counted wires counts
