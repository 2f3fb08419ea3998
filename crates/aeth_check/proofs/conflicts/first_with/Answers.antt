use Rattle.aeth_check.proofs.HoldLaws.{holds-none}
use Rattle.aeth_check.proofs.conflicts.first_with.Goals as goal

-- No grant is held yet.
pub line_with-requires-clause-empty : goal.line_with-requires-clause-empty
line_with-requires-clause-empty c =
    holds-none c.args.chip.now c.args.groups.now _
    (rw c.deref_mut.ensures.value c.in_ok-masks.ensures.empty)
