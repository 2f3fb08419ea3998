use Rattle.std.proofs.Common.{◌-◌, ◌≤◌}
use Rattle.aeth_components.proofs.MarkingActiveLemmas.{AreMarkedActive}
use Rattle.aeth_components.proofs.enqueuing.Enqueuing.mark_active.Given as goal

-- The channels that waited at the places so far are marked.
abbrev pub invariant-places : goal.invariant-places
invariant-places l = record {
  marked_active : AreMarkedActive l.first l.place l.fn.self l.self;
  from : l.first ≤ l.place;
  to : l.place ≤ l.end;
}

abbrev pub decreases-places : goal.decreases-places
decreases-places l = l.end - l.place
