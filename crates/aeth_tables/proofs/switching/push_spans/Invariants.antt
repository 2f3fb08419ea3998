use Rattle.std.{proofs.Common.◌≡◌, proofs.Common.◌++◌, proofs.Common.map, specs.List.range_with_len}
use Rattle.aeth_tables.specs.Changes.{changes_at, span_in}
use Rattle.aeth_tables.proofs.switching.push_spans.Given as goal

-- The spans of the switches so far.
abbrev pub invariant-loop-v : goal.invariant-loop-v
invariant-loop-v l = l.pairs.items ≡ l.fn.pairs.items
    ++ map (λ v. span_in l.groups l.u.0 v (changes_at l.all l.u.0) (changes_at l.all v))
    (range_with_len 0 l.v)
