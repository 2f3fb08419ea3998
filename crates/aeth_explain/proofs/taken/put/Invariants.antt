use Rattle.std.proofs.Common.{length, take, true}
use Rattle.aeth_group.specs.Tables.{Changes, hits_row}
use Rattle.aeth_explain.proofs.taken.put.Given as goal

-- The slots of the links so far are in the masks.
abbrev pub invariant-loop-i : goal.invariant-loop-i
invariant-loop-i l =
    Changes l.chip.slots (length l.chip.links)
    (hits_row l.grant.slots l.chip.links l.row (take l.i l.grant.path)) true l.fn.masks l.masks
