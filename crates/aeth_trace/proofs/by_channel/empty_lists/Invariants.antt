use Rattle.std.proofs.Common.{◌≡◌, ℕ, [], length}
use Rattle.aeth_trace.specs.Channels.{list_at}
use Rattle.aeth_trace.proofs.by_channel.empty_lists.Given as goal

-- So many lists so far, all empty.
abbrev pub invariant-loop-count : goal.invariant-loop-count
invariant-loop-count l = record {
  size : length l.lists.items ≡ l.count-index;
  empty : (place : ℕ) → list_at l.lists.items place ≡ [];
}
