use Rattle.std.proofs.Common.{◌≡◌, take}
use Rattle.aeth_schedule.specs.Switching.{changes}
use Rattle.aeth_scheduling.proofs.switching.changes_of.Given as goal

-- The events so far.
abbrev pub invariant-loop-write : goal.invariant-loop-write
invariant-loop-write l = l.events.items ≡ changes (take l.write-index l.writes)
