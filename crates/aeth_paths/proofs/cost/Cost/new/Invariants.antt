use Rattle.std.proofs.Common.{◌≡◌, ◌<◌, ◌+◌, ◌/◌, ◌%◌, ℕ, length, get_or}
use Rattle.aeth_paths.specs.Costs.{cost_count, used_count}
use Rattle.aeth_paths.proofs.cost.Cost.new.Given as goal

-- The answers so far are those of the function.
abbrev pub invariant-loop-i : goal.invariant-loop-i
invariant-loop-i g l = record {
  size : length l.answers ≡ cost_count;
  told : (k : ℕ) → k < l.i
      → goal.F-post g l.function (1 + k / used_count) (k % used_count) (get_or l.answers k 0);
}
