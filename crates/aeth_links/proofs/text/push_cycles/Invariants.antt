use Rattle.std.proofs.Common.{◌≡◌, ◌≤◌, ◌++◌, length}
use Rattle.aeth_accepted.specs.Inputs.{run_of}
use Rattle.aeth_network.specs.Runs.{IsNetworkOf}
use Rattle.aeth_links.{specs.Carried.lines_of, proofs.NetworkLemmas.rows_before}
use Rattle.aeth_links.proofs.text.push_cycles.Given as goal

-- The lines of the cycles so far stand behind the text, and the network has done them.
abbrev pub invariant-loop-cycle : goal.invariant-loop-cycle
invariant-loop-cycle l = record {
  text : l.text.items ≡ l.fn.text.items ++ lines_of (rows_before (run_of l.inputs) l.cycle);
  network : IsNetworkOf l.inputs l.network;
  time : l.network.time ≡ l.cycle;
  parts : length l.network.components.parts ≡ length l.fn.network.components.parts;
  within : l.cycle ≤ l.inputs.cycles;
}
