use Rattle.std.proofs.Common.{◌∙◌}
use Rattle.aeth_check.{specs.Masks.is_held, proofs.TouchLaws.touches-any}
use Rattle.aeth_check.proofs.conflicts.meets_some.Goals as goal

-- Meeting what some grants hold is conflicting with one of them.
pub returns : goal.returns
returns c = λ grants holds.
    c.meets.ensures (is_held c.args.chip.now.links c.args.groups.now grants) holds
    ∙ touches-any c.args.chip.now.links c.args.groups.now grants c.args.grant.now
