use Rattle.std.proofs.Common.{◌≡◌, ◌<◌, length, slice_index}
use Rattle.aeth_base.specs.declared.ids.NiId.{NiId}
use Rattle.aeth_explain.specs.Senders.{most_to}
use Rattle.aeth_explain.proofs.senders.most_to_all.Given as goal

-- The entries so far.
abbrev pub invariant-loop-b : goal.invariant-loop-b
invariant-loop-b l = record {
  count : length l.table.items ≡ l.b;
  most : (b : NiId) → b.0 < l.b → slice_index l.table.items b.0 ≡ most_to l.chip l.trial l.fn.a b;
}
