use Rattle.std.proofs.Common.{◌≡◌}
use Rattle.aeth_check.{specs.Channels.first_lacking, proofs.UnitLists.units_behind}
use Rattle.aeth_group.specs.Members.{units_of}
use Rattle.aeth_check.proofs.channels.first_lacking.Given as goal

-- The first side without a grant is that of the connections that are left.
abbrev pub invariant-loop-c : goal.invariant-loop-c
invariant-loop-c l =
    first_lacking l.grants (units_behind l.groups l.c)
    ≡ first_lacking l.grants (units_of l.groups)
