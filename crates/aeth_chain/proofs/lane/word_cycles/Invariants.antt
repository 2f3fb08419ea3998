use Rattle.std.proofs.Common.{◌≡◌, ◌≤◌, length}
use Rattle.aeth_trace.specs.Receivers.{pulls_until}
use Rattle.aeth_chain.specs.Lanes.{IsReceiving, crediting_cycles, sending_cycles, server_in}
use Rattle.aeth_chain.specs.Lanes.{taking_cycles}
use Rattle.aeth_chain.proofs.lane.word_cycles.Given as goal

-- The cycles of the words so far, and where the receiver stands behind them.
abbrev pub invariant-loop-place : goal.invariant-loop-place
invariant-loop-place l = record {
  sent : l.cycles.sent.items ≡ sending_cycles (server_in l.lane) l.lane.cycles l.place;
  taken : l.cycles.taken.items ≡ taking_cycles (server_in l.lane) l.lane.cycles l.place;
  credited : l.cycles.credited.items
      ≡ crediting_cycles (server_in l.lane) l.lane.cycles l.place;
  receiving : IsReceiving (server_in l.lane) l.lane.cycles l.place l.receiving.cycle
      l.receiving.had;
  known : l.receiving.known ≤ length (pulls_until l.lane.receivers.now l.lane.item.channel
      l.receiving.cycle);
}
