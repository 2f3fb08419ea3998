use Rattle.std.proofs.Common.{◌≡◌, ◌<◌, ◌≤◌, ◌-◌, ℕ, true, false, Some, length, slice_get}
use Rattle.aeth_group.specs.declared.grant.Grant.{Grant}
use Rattle.aeth_plan.specs.UnitGrants.{is_before}
use Rattle.aeth_check.proofs.channels.has_side.Given as goal

-- The grants before the part that is left come before the side, and those behind it don't.
abbrev pub invariant-halves : goal.invariant-halves
invariant-halves l = record {
  order : l.low ≤ l.high;
  within : l.high ≤ length l.grants;
  before : (k : ℕ) (x : Grant) → k < l.low → slice_get l.grants k ≡ Some x
      → is_before l.unit l.side x ≡ true;
  behind : (k : ℕ) (x : Grant) → l.high ≤ k → slice_get l.grants k ≡ Some x
      → is_before l.unit l.side x ≡ false;
}

abbrev pub decreases-halves : goal.decreases-halves
decreases-halves l = l.high - l.low
