use Rattle.std.proofs.Common.{length, true}
use Rattle.aeth_group.specs.Tables.{Changes, hits_uses}
use Rattle.aeth_explain.proofs.slot_tables.put_uses.Given as goal

-- The masks of the use cases so far have them.
abbrev pub invariant-loop-u : goal.invariant-loop-u
invariant-loop-u l = Changes l.chip.slots (length l.chip.links)
    (hits_uses l.grant.slots l.chip.links l.groups l.grant.unit l.grant.path l.u) true l.fn.masks l.masks
