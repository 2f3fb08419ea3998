use Rattle.std.{proofs.Common.◌≡◌, proofs.Common.◌≤◌, proofs.Common.map, specs.List.range_with_len}
use Rattle.aeth_server.specs.PrivateServer.{landed}
use Rattle.aeth_chain.specs.ChainRun.{chain_time, landing_on}
use Rattle.aeth_chain.specs.Lanes.{legs_in, run_in, server_in}
use Rattle.aeth_chain.proofs.landing.landings_of.Given as goal

-- The landings so far, all of which come within the run, and the chain's time of the last.
abbrev pub invariant-loop-place : goal.invariant-loop-place
invariant-loop-place l = record {
  rows : l.rows.items ≡ map (landing_on l.lane.cycles (legs_in l.running) l.running.first.now
      (run_in l.lane)) (range_with_len 0 l.place);
  finish : l.finish ≡ chain_time (legs_in l.running) l.running.first.now l.place;
  within : l.place ≤ landed (server_in l.lane) l.lane.cycles;
}
