use Rattle.std.proofs.Common.{◌≡◌}
use Rattle.aeth_check.{specs.Channels.first_lacking, proofs.UnitLists.units_from}
use Rattle.aeth_group.specs.Members.{units_with}
use Rattle.aeth_check.proofs.channels.lacking_with.Given as goal

-- The first side without a grant is that of the groups that are left.
abbrev pub invariant-loop-g : goal.invariant-loop-g
invariant-loop-g l =
    first_lacking l.grants (units_from l.groups l.conn.0 l.g)
    ≡ first_lacking l.grants (units_with l.groups l.conn.0)
