use Rattle.std.proofs.Common.{◌≡◌, ◌≤◌, drop, length}
use Rattle.aeth_check.specs.{Calls.first_meeting, Masks.Holds, Meetings.conflicts}
use Rattle.aeth_check.proofs.conflicts.meeting_in.Given as goal

-- The masks hold the grants from this one on, and the first of these that conflicts with one behind
-- it is found.
abbrev pub invariant-grants : goal.invariant-grants
invariant-grants l = record {
  within : l.left ≤ length l.grants;
  held : Holds l.chip l.groups (drop l.left l.grants) l.masks;
  found : l.found ≡ first_meeting (conflicts l.chip.links l.groups) l.left (drop l.left l.grants);
}

abbrev pub decreases-grants : goal.decreases-grants
decreases-grants l = l.left
