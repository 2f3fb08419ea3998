use Rattle.std.proofs.Common.{◌≡◌, filter, eqb, slice_get}
use Rattle.std.specs.List.{range_with_len}
use Rattle.aeth_group.specs.Members.{group_in}
use Rattle.aeth_group.proofs.rows.row_of.Given as goal

-- The use cases of the group so far.
abbrev pub invariant-loop-u : goal.invariant-loop-u
invariant-loop-u l =
    l.row.items ≡ filter (λ u. eqb (group_in (slice_get l.uses u)) l.group) (range_with_len 0 l.u)
