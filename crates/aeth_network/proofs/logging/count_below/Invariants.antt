use Rattle.std.proofs.Common.{◌≡◌, ◌≤◌, nat_lt, take, count_by}
use Rattle.aeth_network.proofs.logging.count_below.Given as goal

-- How many so far.
abbrev pub invariant-loop-at : goal.invariant-loop-at
invariant-loop-at l = record {
  count : l.count ≡ count_by (λ at. nat_lt at l.cycles) (take l.at-index l.landings);
  few : l.count ≤ l.at-index;
}
