use Rattle.aeth_check.proofs.HoldLaws.{holds-none}
use Rattle.aeth_check.proofs.conflicts.first_meeting.Goals as goal

-- No grant is held yet.
pub meeting_in-requires-clause-empty : goal.meeting_in-requires-clause-empty
meeting_in-requires-clause-empty c =
    holds-none c.args.chip.now c.args.groups.now _
    (rw c.deref_mut.ensures.value c.in_ok-masks.ensures.empty)
