use Rattle.std.proofs.Common.{◌≡◌, ◌≤◌, ◌<◌, ◌*◌, ◌+◌, ℕ}
use Rattle.aeth_base.specs.Marks.{bit_of, numbers_of_mask}
use Rattle.aeth_base.proofs.marks.first_in.Given as goal

-- No number of the masks so far is marked.
abbrev pub invariant-loop-mask : goal.invariant-loop-mask
invariant-loop-mask l = record {
  place : l.place ≡ l.from + l.mask-index;
  none : (number : ℕ) → numbers_of_mask * l.from ≤ number → number < numbers_of_mask * l.place
      → bit_of l.masks number ≡ 0;
}
