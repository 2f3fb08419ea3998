use Rattle.std.proofs.Common.{◌≡◌, ◌∷◌, [], drop}
use Rattle.aeth_group.specs.declared.grant.Grant.{Grant}
use Rattle.aeth_check.specs.{Firsts.first_line, Masks.Holds, Meetings.conflicts}
use Rattle.aeth_check.proofs.conflicts.line_in.Given as goal

-- The first grant that conflicts is among those that are left.
abbrev pub invariant-loop-other : goal.invariant-loop-other
invariant-loop-other l = (one : Grant) → Holds l.chip l.groups (one ∷ []) l.masks
    → first_line (conflicts l.chip.links l.groups one) l.line (drop l.other-index l.others)
    ≡ first_line (conflicts l.chip.links l.groups one) l.first l.others
