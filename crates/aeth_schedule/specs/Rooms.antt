-- How many words the receive queues of a chip have room for.
--
--   queue_number      the queue at which a channel lands
--   room_at, rooms_in, rooms_of      the room of a queue, of so many, and of all queues of a chip
--   landing_number      the queue at which a channel with a buffer lands
--   raised, raised_all      one channel more
-- Buffers at the receiving interface: after Æthereal (2005).
use Rattle.std.proofs.Common.{ℕ, ◌+◌, ◌*◌, ◌==◌, max, List, filter, flat_map, fold, length, map}
use Rattle.std.proofs.Common.{slice_index, slice_set}
use Rattle.std.specs.List.{range_with_len}
use Rattle.aeth_slots.specs.SlotSet.{greatest}
use Rattle.aeth_ni.specs.Limits.{queues_of_interface}
use Rattle.aeth_accepted.specs.Inputs.{Inputs}
use Rattle.aeth_schedule.specs.{Lines.all_lines, declared.lines.Line.Line}
use Rattle.aeth_tables.specs.declared.buffering.Buffer.{Buffer}

-- The number of the queue at which a channel lands, among those of all interfaces.
abbrev pub queue_number : Line → ℕ
queue_number line = queues_of_interface * line.receiver.ni.0 + line.receiver.queue

-- The greatest buffer of those channels that land at the queue of a number; 0 where none does.
abbrev pub room_at : List Line → ℕ → ℕ
room_at lines number =
    greatest (map (λ line. line.row.credits) (filter (λ line. queue_number line == number) lines))

-- Of so many queues.
abbrev pub rooms_in : List Line → ℕ → List ℕ
rooms_in lines count = map (room_at lines) (range_with_len 0 count)

-- The rooms of all queues of a chip, for the channels of all use cases.
unfoldable pub rooms_of : Inputs → List ℕ
rooms_of inputs =
    rooms_in (flat_map (λ lines. lines) (all_lines inputs)) (queues_of_interface * length inputs.chip.nis)

-- The number of the queue at which a channel with a buffer lands.
abbrev pub landing_number : Buffer → ℕ
landing_number one = queues_of_interface * one.ni.0 + one.queue

-- The rooms, once one channel more has its room.
abbrev pub raised : List ℕ → Buffer → List ℕ
raised rooms one =
    slice_set rooms (landing_number one) (max (slice_index rooms (landing_number one)) one.words)

-- Once these have.
abbrev pub raised_all : List ℕ → List Buffer → List ℕ
raised_all rooms buffers = fold raised rooms buffers
