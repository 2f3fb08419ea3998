-- Events, each in its cycle.
--
--   event_by, closing_at      what becomes of channels that close, in one cycle
--   halts_at, finishes_at, writes_from      those of channels in one cycle, and of writes in one each
--   within      those below a number of cycles
--   switching_events, events_with      those of a switch
-- Slot tables that are written while the network runs: after Æthereal (2005). One write in a cycle,
-- through one central port: this project's own.
use Rattle.std.proofs.Common.{ℕ, ◌+◌, nat_lt, List, [], ◌∷◌, ◌++◌, filter, map}
use Rattle.aeth_ni.specs.Program.{program_of}
use Rattle.aeth_ni.specs.declared.{row.ChannelRow.ChannelRow, write.Write.Write}
use Rattle.aeth_report.specs.declared.session.Close.{Close}
use Rattle.aeth_components.specs.declared.event.Event.{Event}
use Rattle.aeth_components.specs.declared.event.Event.TheVariants.{Change, Finish, Halt}
use Rattle.aeth_components.specs.declared.channel_state.ChannelEnd.{ChannelEnd}
use Rattle.aeth_schedule.specs.Lines.{end_of}
use Rattle.aeth_schedule.specs.declared.timed.{Closing.Closing, Closing.TheVariants.Finishes}
use Rattle.aeth_schedule.specs.declared.timed.{Closing.TheVariants.Halts, Timed.Timed}

-- What becomes of a channel that closes and is sent from this queue.
abbrev pub event_by : Closing → ChannelEnd → Event
event_by Halts end = Halt end
event_by Finishes end = Finish end

-- In a cycle this becomes of the channels of these rows.
abbrev pub closing_at : Closing → ℕ → List ChannelRow → List Timed
closing_at closing cycle rows =
    map (λ row. record { cycle = cycle; event = event_by closing (end_of row) }) rows

-- In a cycle the channels of these rows inject no more.
abbrev pub halts_at : ℕ → List ChannelRow → List Timed
halts_at cycle rows = closing_at Halts cycle rows

-- Their queues are emptied.
abbrev pub finishes_at : ℕ → List ChannelRow → List Timed
finishes_at cycle rows = closing_at Finishes cycle rows

-- Writes are made, one in each cycle from this one on.
abbrev pub writes_from : ℕ → List Write → List Timed
writes_from cycle [] = []
writes_from cycle (write ∷ writes) =
    record { cycle = cycle; event = Change write } ∷ writes_from (cycle + 1) writes

-- Those below a number of cycles.
abbrev pub within : ℕ → List Timed → List Timed
within cycles events = filter (λ one. nat_lt one.cycle cycles) events

-- The events of a switch that so closes some channels, and makes these writes. The two directions of a
-- connection close together, so that the sending end of each channel is enough.
abbrev pub switching_events : Close → List ChannelRow → List Write → List Timed
switching_events close closing writes =
    halts_at close.stop closing ++ (finishes_at close.fin closing ++ writes_from close.fin writes)

-- Those of a switch that so closes some channels, and opens others.
abbrev pub events_with : Close → List ChannelRow → List ChannelRow → List Timed
events_with close closing opening = switching_events close closing (program_of closing opening)
