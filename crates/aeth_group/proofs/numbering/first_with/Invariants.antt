use Rattle.std.proofs.Common.{◌≡◌, ◌<◌, ℕ, false}
use Rattle.aeth_group.specs.Marks.{marked}
use Rattle.aeth_group.proofs.numbering.first_with.Given as goal

-- None so far is marked.
abbrev pub invariant-loop-v : goal.invariant-loop-v
invariant-loop-v l = (k : ℕ) → k < l.v → marked l.marks l.u k ≡ false
