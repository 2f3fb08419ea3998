use Rattle.std.proofs.Common.{◌≤◌, ◌-◌, length, flat_map}
use Rattle.std.specs.List.{range_with_len}
use Rattle.aeth_rtable.specs.{Entries.Adds, Hops.hops_at}
use Rattle.aeth_rtable.proofs.hops.note_grant.Given as goal

-- The hops at the places so far are noted.
abbrev pub invariant-loop-place : goal.invariant-loop-place
invariant-loop-place l = record {
  noted : Adds l.chip.slots (flat_map (hops_at l.chip.links l.grant) (range_with_len 1 (l.place - 1)))
      l.fn.entries l.entries;
  most : l.place - 1 ≤ length l.grant.path - 1;
}
