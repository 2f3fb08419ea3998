use Rattle.std.proofs.Common.{◌≡◌, ◌≤◌, All, filter, option_map}
use Rattle.std.specs.List.{filter_map, range_with_len}
use Rattle.aeth_group.specs.Members.{group_at, has_at}
use Rattle.aeth_tables.specs.{Changes.change_of, Changes.most_writes, Granted.granted_of}
use Rattle.aeth_tables.proofs.changes.list_of.Given as goal

-- The changes of the connections so far.
abbrev pub invariant-loop-c : goal.invariant-loop-c
invariant-loop-c l = record {
  changes : l.list.items ≡ filter_map (λ conn. option_map (change_of l.chip)
      (granted_of l.app l.plan (group_at l.groups l.u.0) conn))
      (filter (has_at l.groups l.u.0) (range_with_len 0 l.c));
  few : All (λ change. change.writes ≤ most_writes) l.list.items;
}
