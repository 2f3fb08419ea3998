use Rattle.std.proofs.Common.{◌≡◌, filter}
use Rattle.std.specs.List.{filter_map, range_with_len}
use Rattle.aeth_group.specs.Members.{group_at, has_at}
use Rattle.aeth_tables.specs.Granted.{granted_of}
use Rattle.aeth_tables.proofs.granted.granted_in.Given as goal

-- The connections so far were seen.
abbrev pub invariant-loop-c : goal.invariant-loop-c
invariant-loop-c l = l.granted.items
    ≡ filter_map (granted_of l.app l.plan (group_at l.groups l.u.0))
    (filter (has_at l.groups l.u.0) (range_with_len 0 l.c))
