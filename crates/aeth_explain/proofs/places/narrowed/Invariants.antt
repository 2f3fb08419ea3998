use Rattle.std.proofs.Common.{◌≤◌, ◌-◌, length}
use Rattle.aeth_explain.specs.{Cuts.begins_with, Places.AreWithin}
use Rattle.aeth_explain.proofs.places.narrowed.Given as goal

-- The lists that begin with the path are among those that are left.
abbrev pub invariant-first : goal.invariant-first
invariant-first l =
    AreWithin (begins_with l.path) l.cuts (record { from = l.from; to = l.to })

-- The lists that are left.
abbrev pub decreases-first : goal.decreases-first
decreases-first l = l.to - l.from

-- The lists that begin with the path are among those that are left.
abbrev pub invariant-last : goal.invariant-last
invariant-last l = record {
  known : l.to ≤ length l.cuts;
  within : AreWithin (begins_with l.path) l.cuts (record { from = l.from; to = l.to });
}

-- The lists that are left.
abbrev pub decreases-last : goal.decreases-last
decreases-last l = l.to - l.from
