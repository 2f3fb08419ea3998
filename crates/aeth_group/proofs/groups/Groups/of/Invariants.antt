use Rattle.std.{proofs.Common.◌≡◌, proofs.Common.map, specs.List.range_with_len}
use Rattle.aeth_group.specs.Members.{use_group}
use Rattle.aeth_group.proofs.groups.Groups.of.Given as goal

-- The use cases so far.
abbrev pub invariant-loop-u : goal.invariant-loop-u
invariant-loop-u l = l.uses.items ≡ map (use_group l.app) (range_with_len 0 l.u)
