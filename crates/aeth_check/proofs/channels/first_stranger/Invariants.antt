use Rattle.std.proofs.Common.{◌≡◌, drop, not}
use Rattle.aeth_check.specs.Firsts.{first_line}
use Rattle.aeth_group.specs.Members.{is_member}
use Rattle.aeth_check.proofs.channels.first_stranger.Given as goal

-- The first stranger is among the grants that are left.
abbrev pub invariant-loop-grant : goal.invariant-loop-grant
invariant-loop-grant l =
    first_line (λ grant. not (is_member l.groups grant.unit.group.0 grant.unit.conn.0)) l.line
    (drop l.grant-index l.grants)
    ≡ first_line (λ grant. not (is_member l.groups grant.unit.group.0 grant.unit.conn.0)) l.first
    l.grants
