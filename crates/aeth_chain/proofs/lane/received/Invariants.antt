use Rattle.std.proofs.Common.{◌≤◌, ◌-◌, length}
use Rattle.aeth_trace.specs.Receivers.{pulls_until}
use Rattle.aeth_chain.{specs.Lanes.server_in, proofs.ReceiverLemmas.IsWaiting}
use Rattle.aeth_chain.proofs.lane.received.Given as goal

-- The word is waited for.
abbrev pub invariant-wait : goal.invariant-wait
invariant-wait l = record {
  waiting : IsWaiting (server_in l.lane) l.lane.cycles l.place l.cycle l.had;
  known : l.known ≤ length (pulls_until l.lane.receivers.now l.lane.item.channel l.cycle);
}

-- What is left of the run.
abbrev pub decreases-wait : goal.decreases-wait
decreases-wait l = l.lane.cycles - l.cycle
