use Rattle.aeth_check.proofs.HoldLaws.{holds-more}
use Rattle.aeth_check.proofs.conflicts.hold.Goals as goal

-- What was put in is held.
pub returns : goal.returns
returns c = λ grants holds.
    holds-more c.args.chip.now c.args.groups.now c.args.grant.now grants c.args.masks.now _
    c.put.ensures holds
