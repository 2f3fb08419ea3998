use Rattle.std.proofs.Common.{◌≡◌, take}
use Rattle.aeth_group.proofs.groups.Groups.copy.Given as goal

-- The use cases so far.
abbrev pub invariant-loop-one : goal.invariant-loop-one
invariant-loop-one l = l.uses.items ≡ take l.one-index l.one-items
