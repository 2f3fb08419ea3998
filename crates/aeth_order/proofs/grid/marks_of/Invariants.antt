use Rattle.std.{proofs.Common.◌≡◌, proofs.Common.map, specs.List.range_with_len}
use Rattle.aeth_order.specs.Grid.{is_unit_at}
use Rattle.aeth_order.proofs.grid.marks_of.Given as goal

-- The places so far.
abbrev pub invariant-loop-place : goal.invariant-loop-place
invariant-loop-place l = l.marks.items ≡ map (is_unit_at l.groups) (range_with_len 0 l.place)
