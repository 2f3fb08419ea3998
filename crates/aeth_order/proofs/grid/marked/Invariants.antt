use Rattle.std.{proofs.Common.◌≡◌, proofs.Common.take, specs.List.items_where_true}
use Rattle.aeth_order.proofs.grid.marked.Given as goal

-- The places so far.
abbrev pub invariant-loop-place : goal.invariant-loop-place
invariant-loop-place l =
    l.units.items ≡ items_where_true (take l.place l.marks) (take l.place l.grid)
