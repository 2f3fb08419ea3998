use Rattle.std.proofs.Common.{◌≡◌, ◌≤◌, ◌++◌, map, take, vec_capacity}
use Rattle.std.specs.List.{slice_index_or}
use Rattle.aeth_trace.specs.Channels.{channel_number}
use Rattle.aeth_stimuli.specs.Loaded.{no_channel_state}
use Rattle.aeth_network.proofs.giving.note.Given as goal

-- The channels so far are noted.
abbrev pub invariant-loop-place : goal.invariant-loop-place
invariant-loop-place l = record {
  items : l.replaced.items ≡ l.fn.replaced.items
      ++ map (λ one. slice_index_or l.channel_states (channel_number one.channel) no_channel_state)
      (take l.place l.session_starts);
  capacity : vec_capacity l.fn.replaced ≤ vec_capacity l.replaced;
}
