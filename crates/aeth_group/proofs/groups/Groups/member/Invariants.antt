use Rattle.std.{proofs.Common.◌≡◌, proofs.Common.drop, specs.List.list_any}
use Rattle.aeth_group.specs.Members.{has_unit, is_member}
use Rattle.aeth_group.proofs.groups.Groups.member.Given as goal

-- Whether one has it is decided by the use cases that are left.
abbrev pub invariant-loop-u : goal.invariant-loop-u
invariant-loop-u l = list_any (has_unit l.self l.unit) (drop l.u-index l.u-items)
    ≡ is_member l.self l.unit.group.0 l.unit.conn.0
