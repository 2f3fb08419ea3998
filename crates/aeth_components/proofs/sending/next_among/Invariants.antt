use Rattle.std.proofs.Common.{◌≤◌, ◌<◌, ◌-◌, ℕ}
use Rattle.aeth_components.specs.First.{HasSender}
use Rattle.aeth_components.proofs.sending.next_among.Given as goal

-- None sends in the cycles so far.
abbrev pub invariant-cycles : goal.invariant-cycles
invariant-cycles l = record {
  least : l.from ≤ l.cycle;
  most : l.cycle ≤ l.end;
  none : (other : ℕ) → l.from ≤ other → other < l.cycle → HasSender l.parts other → ⊥;
}

abbrev pub decreases-cycles : goal.decreases-cycles
decreases-cycles l = l.end - l.cycle
