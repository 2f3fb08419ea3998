use Rattle.std.proofs.Common.{◌∙◌, length, sym, true}
use Rattle.aeth_group.proofs.TableLemmas.{still_table}
use Rattle.aeth_group.proofs.TableUseLemmas.{uses_skip, uses_step}
use Rattle.aeth_explain.proofs.slot_tables.put_uses.Goals.{then-has_unit, else-has_unit}
use Rattle.aeth_explain.proofs.slot_tables.put_uses.Goals as goal

-- What has been put in so far is a table.
pub put-requires-clause-table : goal.put-requires-clause-table
put-requires-clause-table c =
    still_table c.args.chip.now.slots (length c.args.chip.now.links) _ true c.args.masks.now
    c.loop-u.masks c.loop-u.invariant c.requires.table

-- The use case has the slots if it has the unit.
pub loop-u-preserved : goal.loop-u-preserved
loop-u-preserved c =
    let grant = c.args.grant.now in
    elim c.if-has_unit.branch [
      | then-has_unit w ↦ rw w.masks-is
          (uses_step c.args.chip.now.slots grant.slots c.args.chip.now.links c.args.groups.now grant.unit
          grant.path c.loop-u.u true c.args.masks.now c.loop-u.masks w.put.new.masks
          (sym c.has_unit.ensures ∙ w.if-has_unit.true) c.loop-u.invariant w.put.ensures)
      | else-has_unit w ↦ rw w.masks-is
          (uses_skip c.args.chip.now.slots grant.slots c.args.chip.now.links c.args.groups.now grant.unit
          grant.path c.loop-u.u true c.args.masks.now c.loop-u.masks
          (sym c.has_unit.ensures ∙ w.if-has_unit.false) c.loop-u.invariant)
    ]
