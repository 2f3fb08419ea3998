use Rattle.std.proofs.Common.{length, take, true}
use Rattle.aeth_group.specs.Tables.{Changes}
use Rattle.aeth_check.proofs.UseLaws.{hits_those}
use Rattle.aeth_check.proofs.masks.put.Given as goal

-- The slots of the use cases so far are in the masks.
abbrev pub invariant-loop-u : goal.invariant-loop-u
invariant-loop-u l =
    Changes l.chip.slots (length l.chip.links) (hits_those l.grant.slots l.chip.links l.groups
    l.grant.unit l.grant.path (take l.u-index l.u-items)) true l.fn.masks l.masks
