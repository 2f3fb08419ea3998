use Rattle.aeth_group.{specs.Members.is_member, proofs.Ranges.Counted}
use Rattle.aeth_group.proofs.groups.Groups.groups_with.Given as goal

-- The groups so far are counted.
abbrev pub invariant-loop-g : goal.invariant-loop-g
invariant-loop-g l = Counted (λ g. is_member l.self g l.c.0) l.g l.groups
