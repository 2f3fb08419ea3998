use Rattle.std.{proofs.Common.◌≡◌, proofs.Common.filter, specs.List.range_with_len}
use Rattle.aeth_group.specs.Members.{has_unit}
use Rattle.aeth_explain.proofs.slot_tables.uses_with.Given as goal

-- Those of the use cases so far.
abbrev pub invariant-loop-u : goal.invariant-loop-u
invariant-loop-u l = l.uses.items ≡ filter (has_unit l.groups l.fn.unit) (range_with_len 0 l.u)
