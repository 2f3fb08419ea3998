use Rattle.std.{proofs.Common.◌≡◌, proofs.Common.flat_map, specs.List.range_with_len}
use Rattle.aeth_tables.specs.Changes.{spans_in}
use Rattle.aeth_tables.proofs.switching.all_spans.Given as goal

-- The spans of the switches from the use cases so far.
abbrev pub invariant-loop-u : goal.invariant-loop-u
invariant-loop-u l = l.pairs.items ≡ flat_map (spans_in l.groups l.all) (range_with_len 0 l.u)
